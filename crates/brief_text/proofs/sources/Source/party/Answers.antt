use Rattle.std.proofs.Common.{ℕ, List, sym, ap, ◌∙◌, subst, inr, arith}
use Rattle.std.specs.Prelude.{Err}
use Rattle.std.proofs.lemmas.Result.{err_from_is_err_and}
use Rattle.plan_core.specs.NameBytes.{name_bytes}
use Rattle.plan_text.specs.Places.{Refuses}
use Rattle.plan_text.specs.Reader.{◌>>=◌}
use Rattle.plan_text.specs.declared.errors.PlanError.{PlanError}
use Rattle.brief_text.specs.Items.{side_in}
use Rattle.brief_text.specs.Places.{Finds, token_as}
use Rattle.brief_text.specs.Standing.{place}
use Rattle.brief_text.specs.Trees.{Side}
use Rattle.brief_text.proofs.ValueLemmas.{refuses_on}
use Rattle.brief_text.proofs.LabelLemmas.{half_refused, same_names, whole_found, whole_step, label_found, label_long, first_no_name, second_no_name}
use Rattle.brief_text.proofs.sources.Source.party.Goals as goal

pub returns-in_err-controller : goal.returns-in_err-controller
returns-in_err-controller c =
    let after = place c.next-token.new.self in
    let p = err_from_is_err_and c.from_residual.result c.from_residual.ensures.1 in
    let whole = whole_step c.args.letters c.next-token.result (place c.args.self.now) after c.next-token.ensures.place c.in-Word.word c.in-Word.is c.in_default-around_slash.ensures in
    rw (p.1, p.2) (subst (λ (r : Finds Side). Refuses r c.in_err-controller.field-0.0) (sym whole) (refuses_on _ whole_found c.in_err-controller.field-0.0 (c.in_err-controller.ensures after)))

pub returns-in_default-around_slash : goal.returns-in_default-around_slash
returns-in_default-around_slash c =
    let after = place c.next-token.new.self in
    let whole = whole_step c.args.letters c.next-token.result (place c.args.self.now) after c.next-token.ensures.place c.in-Word.word c.in-Word.is c.in_default-around_slash.ensures in
    whole ∙ ap (λ (r : Finds (List ℕ)). r >>= whole_found) (c.in_ok-controller.ensures after)

pub returns-then-word-gt32 : goal.returns-then-word-gt32
returns-then-word-gt32 c =
    let after = place c.next-token.new.self in
    inr (label_long c.args.letters c.next-token.result (place c.args.self.now) after c.next-token.ensures.place c.in-Word.word c.in-Word.is _ _ c.in-Some.ensures (omega arith) ∙ ap (λ (e : PlanError). Err e) (sym c.unexpected-then-word-gt32.ensures))

pub returns-in_err-controller-2 : goal.returns-in_err-controller-2
returns-in_err-controller-2 c =
    let after = place c.next-token.new.self in
    let p = err_from_is_err_and c.from_residual-in_err-controller-2.result c.from_residual-in_err-controller-2.ensures.1 in
    rw (p.1, p.2) (half_refused c.args.letters (token_as (side_in c.args.letters) (place c.args.self.now)) c.in-Some.controller.now _ _ c.in_err-controller-2.ensures.refused
    (first_no_name c.args.letters c.next-token.result (place c.args.self.now) after c.next-token.ensures.place c.in-Word.word c.in-Word.is _ _ c.in-Some.ensures))

pub returns-in_err-label : goal.returns-in_err-label
returns-in_err-label c =
    let after = place c.next-token.new.self in
    let p = err_from_is_err_and c.from_residual-in_err-label.result c.from_residual-in_err-label.ensures.1 in
    rw (p.1, p.2) (half_refused c.args.letters (token_as (side_in c.args.letters) (place c.args.self.now)) c.in-Some.label.now _ _ c.in_err-label.ensures.refused
    (second_no_name c.args.letters c.next-token.result (place c.args.self.now) after c.next-token.ensures.place c.in-Word.word c.in-Word.is _ _ c.in-Some.ensures))

pub returns : goal.returns
returns c =
    let after = place c.next-token.new.self in
    label_found c.args.letters c.next-token.result (place c.args.self.now) after c.next-token.ensures.place c.in-Word.word c.in-Word.is _ _ c.in-Some.ensures (omega arith) c.in_ok-controller-2.ensures.name.1 c.in_ok-label.ensures.name.1
    ∙ same_names _ _ (name_bytes c.in_ok-controller-2.controller) (name_bytes c.in_ok-label.label) c.next-token.result.line after c.in_ok-controller-2.ensures.name.0 c.in_ok-label.ensures.name.0
