use Rattle.std.proofs.Common.{ap, sym, ◌∙◌, arith, is_some}
use Rattle.std.proofs.lemmas.Bool.{and_right}
use Rattle.plan_text.proofs.WordLemmas.{no_known_bits, known_address_whole, no_known_address}
use Rattle.plan_text.proofs.words.known_address.Goals as goal

pub returns-in_err-bits-clause-form : goal.returns-in_err-bits-clause-form
returns-in_err-bits-clause-form c =
    ap is_some c.from_residual.ensures ∙ sym (and_right _ _ (no_known_bits c.args.word.now (sym c.in_err-bits.ensures.form)))

pub returns-then-bits-eq127-clause-form : goal.returns-then-bits-eq127-clause-form
returns-then-bits-eq127-clause-form c =
    sym (known_address_whole c.args.word.now _ _ (omega arith) c.if-bits-eq127.true c.in_ok-bits.ensures.bits)

pub returns-else-bits-eq127-clause-form : goal.returns-else-bits-eq127-clause-form
returns-else-bits-eq127-clause-form c =
    sym (no_known_address c.args.word.now _ _ (omega arith) c.in_ok-bits.ensures.known c.if-bits-eq127.false c.in_ok-bits.ensures.bits)
