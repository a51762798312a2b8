-- `put_number` of `lines`: one digit, or all digits but the last, then the last, by the quotient.
-- Assumes nothing.
use Rattle.std.proofs.Common.{[], ◌∷◌, ◌≡◌, ℕ, ◌+◌, ◌-◌, ◌*◌, ◌≤◌, ◌/◌, ◌%◌, ◌++◌, arith, ap₂, sym, ◌∙◌}
use Rattle.lines.specs.Line.{decimal_of}
use Rattle.lines.specs.Line.Laws.{put_more, decimal_one, decimal_more}
use Rattle.lines.proofs.written.+put_number.Goals as goal

-- all digits but the last, then the last, by the quotient
spelled : (n most : ℕ) → 10 ≤ n → most ≡ n / 10 → decimal_of n ≡ decimal_of most ++ ((48 + (n - most * 10)) ∷ [])
spelled n most h e =
    let last : 48 + n % 10 ≡ 48 + (n - most * 10) = omega arith in
    decimal_more n h ∙ ap₂ (λ k d. decimal_of k ++ (d ∷ [])) (sym e) last

pub returns-then-n-lt10 : goal.returns-then-n-lt10
returns-then-n-lt10 t c = rw (decimal_one _ c.if-n-lt10.true) c.put_byte.ensures

pub returns : goal.returns
returns t c =
    let most = c.tens-most.result in
    let n = c.args.n in
    rw (spelled n most c.if-n-lt10.false c.tens-most.ensures)
    (put_more _ _ (decimal_of most) _ _ ((48 + (n - most * 10)) ∷ []) _ _
    c.put_number-next.ensures c.put_number-next.auto.out c.put_byte-2.ensures)
