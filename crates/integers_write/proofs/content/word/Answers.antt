-- `content::word` meets its contract, by the sign.
-- Assumes nothing.
use Rattle.integers.specs.Integer.Signed.{up_fits, below_fits, below_cast, below_room, below_word, word_cast, word_is}
use Rattle.integers_write.proofs.content.word.Goals as goal

pub overflow_add-k : goal.overflow_add-k
overflow_add-k c = up_fits c.args.v c.ranges.v c.if-v-lt0.true

pub overflow_sub-k : goal.overflow_sub-k
overflow_sub-k c = below_fits c.args.v c.ranges.v c.if-v-lt0.true

pub overflow_cast-result : goal.overflow_cast-result
overflow_cast-result c = below_cast c.args.v c.ranges.v c.if-v-lt0.true

pub overflow_sub-result : goal.overflow_sub-result
overflow_sub-result c = below_room c.args.v c.ranges.v c.if-v-lt0.true

pub returns-then-v-lt0 : goal.returns-then-v-lt0
returns-then-v-lt0 c = below_word c.args.v c.ranges.v c.if-v-lt0.true

pub overflow_cast-result-2 : goal.overflow_cast-result-2
overflow_cast-result-2 c = word_cast c.args.v c.ranges.v c.if-v-lt0.false

pub returns : goal.returns
returns c = word_is c.args.v c.ranges.v c.if-v-lt0.false
