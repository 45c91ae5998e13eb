use Rattle.std.proofs.Common.{◌≡◌, ◌≤◌, ◌<◌, true, false, length, ap, sym, ◌∙◌, subst, refl, arith}
use Rattle.std.proofs.lemmas.List.{length-map}
use Rattle.std.specs.Prelude.{nat_le}
use Rattle.plan_core.specs.NameBytes.{name_bytes}
use Rattle.plan_core.specs.declared.limits.TheConstants.{MOST_CONTROLLERS}
use Rattle.brief_text.specs.Judging.{is_taken}
use Rattle.brief_text.specs.Parting.{part}
use Rattle.brief_text.specs.Splitting.{parts}
use Rattle.brief_text.specs.Standing.{draft}
use Rattle.brief_text.proofs.BoardLemmas.{controller_judged, at_least, below}
use Rattle.brief_text.proofs.boards.Board.controller_refusal.Goals as goal

pub returns-then-is_taken : goal.returns-then-is_taken
returns-then-is_taken c =
    let d = draft c.args.self.now in
    sym (controller_judged d (name_bytes c.args.name.now) true (nat_le MOST_CONTROLLERS (length (parts d))) (sym (c.if-is_taken.ensures ∙ ap (is_taken d) c.as_str.ensures)) refl)

pub returns-then-len : goal.returns-then-len
returns-then-len c =
    let d = draft c.args.self.now in
    let mapped = ap length (sym c.in_ok-parts.ensures) ∙ length-map c.in_ok-parts.field-0.items part in
    let count : length (parts d) ≡ c.len.result = omega (arith, mapped, c.in_ok-parts.field-0.ok.0, c.len.ensures) in
    let long = subst (λ n. MOST_CONTROLLERS ≤ n) (sym count) c.if-len.true in
    sym (controller_judged d (name_bytes c.args.name.now) false true (sym (c.if-is_taken.ensures ∙ ap (is_taken d) c.as_str.ensures)) (at_least MOST_CONTROLLERS (length (parts d)) long))

pub returns : goal.returns
returns c =
    let d = draft c.args.self.now in
    let mapped = ap length (sym c.in_ok-parts.ensures) ∙ length-map c.in_ok-parts.field-0.items part in
    let count : length (parts d) ≡ c.len.result = omega (arith, mapped, c.in_ok-parts.field-0.ok.0, c.len.ensures) in
    let short = subst (λ n. n < MOST_CONTROLLERS) (sym count) c.if-len.false in
    sym (controller_judged d (name_bytes c.args.name.now) false false (sym (c.if-is_taken.ensures ∙ ap (is_taken d) c.as_str.ensures)) (below MOST_CONTROLLERS (length (parts d)) short))
