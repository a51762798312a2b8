-- The whole judging goes to the end of a seal, or stops with its true reason.
-- Assumes nothing.
use Rattle.std.specs.Prelude.{refl, ℕ, ◌+◌, ◌≤◌, List, [], ltb, length}
use Rattle.std.proofs.Common.{arith, ltb-true, ltb-false}
use Rattle.format.specs.Bytes.{Bytes}
use Rattle.grammar.specs.Content.{Header}
use Rattle.causes.specs.declared.Item.TheVariants as item
use Rattle.causes.specs.declared.Rule.TheVariants as rule
use Rattle.rules.specs.Rules.{Rule}
use Rattle.rules.specs.Layout.{Item, At, start, on, to_mark, to_signed, to_definition, to_category, to_tag}
use Rattle.rules.specs.Reason.One.{Whole}
use Rattle.verdict.specs.Items.{not, why, mark, version, country, names, date, last}
use Rattle.verdict.specs.Judge.{Report, header, features, signature, reading, judging}
use Rattle.reason.proofs.Goes.{Goes, own, goes_next, goes_pass, goes_pick, all_there, fault_at}
use Rattle.reason.proofs.Head.{mark_goes, version_goes, last_goes, date_goes}
use Rattle.reason.proofs.Fields.{AfterCountry, country_goes}
use Rattle.reason.proofs.Fields.Names.{names_goes}
use Rattle.reason.proofs.Walk.{message_goes, signature_goes}

header_goes : (s : List ℕ) → Bytes s → At s Item.mark 0
    → Goes s own (λ (h : Header) after. At s (Item.tag h.version []) after) (header s)
unfolding header
header_goes s bytes w0 =
    goes_next s item.Mark (λ _ at. At s Item.version at) _ (mark 0 s) _ (mark_goes w0)
    (λ dc at w1. goes_next s item.Version (λ v at. At s (Item.country v) at) _ (version at s) _ (version_goes w1)
    (λ v at w2. goes_next s item.Country (λ _ at. AfterCountry s v at) _ (country at s) _ (country_goes v bytes w2)
    (λ c at w3. goes_pass s own (λ _ at. At s (Item.issued v) at) _ (names v at s) _ (names_goes s at v bytes w3)
    (λ n at w4. goes_next s item.Issued (λ _ at. At s (Item.signed v) at) _ (date at s) _
    (date_goes bytes w4 refl refl (λ k. on w4 k (to_signed at v)))
    (λ i at w5. goes_next s item.Signed (λ _ at. At s (Item.definition v) at) _ (date at s) _
    (date_goes bytes w5 refl refl (λ k. on w5 k (to_definition at v)))
    (λ g at w6. goes_next s item.Definition (λ _ at. At s (Item.category v) at) _ (last at s) _
    (last_goes w6 refl refl (λ k. on w6 k (to_category at v)))
    (λ d at w7. goes_next s item.Category (λ _ at. At s (Item.tag v []) at) _ (last at s) _
    (last_goes w7 refl refl (λ k. on w7 k (to_tag at v)))
    (λ e at w8. w8))))))))

reading_goes : (s : List ℕ) → Bytes s → length s ≤ 4096 → Goes s own (λ (r : Report) end. Whole s) (reading s)
unfolding reading
reading_goes s bytes size =
    goes_pass s own (λ (h : Header) at. At s (Item.tag h.version []) at) (λ (r : Report) end. Whole s) (header s) _
    (header_goes s bytes (on start (size, tt) (to_mark 0)))
    (λ h at w. goes_pass s own (λ rows after. At s Item.signature_length (after + 1)) _ (features 256 h.version [] at s) _
    (message_goes s bytes h.version at w)
    (λ rows mid w1. goes_pass s own (λ n after. Whole s) _ (signature (mid + 1) s) _ (signature_goes s bytes (mid + 1) w1) (λ n end z. z)))

-- Of every byte string: all of its items are kept, to the end, or the judging stops with the true reason.
pub judging_goes : (s : List ℕ) → Bytes s → Goes s own (λ (r : Report) end. Whole s) (judging s)
unfolding judging
judging_goes s bytes =
    goes_pick s own (λ (r : Report) end. Whole s) (ltb 4096 (length s)) (not (why item.Seal rule.NotTooLong) 4096) (reading s)
    (λ e.
    let long = ltb-true 4096 (length s) e in
    fault_at start [] Rule.not_too_long [] refl tt (λ h. omega arith) 4096 refl (all_there 1 4096 s (omega arith)))
    (λ e. reading_goes s bytes (ltb-false 4096 (length s) e))
