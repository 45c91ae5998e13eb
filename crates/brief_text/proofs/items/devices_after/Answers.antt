use Rattle.std.proofs.Common.{rules, ◌≡◌, List, [], ◌∷◌, ◌++◌, ℕ, Some, None, map, ap, sym, ◌∙◌, subst}
use Rattle.std.proofs.lemmas.List.{map_push}
use Rattle.std.proofs.lemmas.Result.{err_from_is_err_and}
use Rattle.plan_core.specs.NameBytes.{name_bytes}
use Rattle.plan_core.specs.declared.names.Name.{Name}
use Rattle.plan_text.specs.Places.{Refuses}
use Rattle.brief_text.specs.Items.{names_from}
use Rattle.brief_text.specs.Judging.{device_refusal}
use Rattle.brief_text.specs.Places.{Reads}
use Rattle.brief_text.specs.Standing.{place, draft}
use Rattle.brief_text.proofs.ValueLemmas.{sendings_end, no_sending, sending_refused, sending_on, sending_smaller}
use Rattle.brief_text.proofs.items.devices_after.Goals as goal

pub names-init : goal.names-init
names-init c =
    let none : c.new-devices.result.items ≡ [] = search rules in
    let one = c.in_ok-push.ensures.items ∙ ap (λ (xs : List Name). xs ++ c.args.first ∷ []) none in
    ap (λ (xs : List Name). names_from (device_refusal (draft c.args.board.now)) (map name_bytes xs) (place c.args.source.now).tokens (place c.args.source.now)) one

pub returns-then-is_semicolon-clause-read : goal.returns-then-is_semicolon-clause-read
returns-then-is_semicolon-clause-read c =
    sym c.names.invariant
    ∙ sendings_end (device_refusal (draft c.args.board.now)) (map name_bytes c.names.devices.items) c.next-token.result (place c.names.source) (place c.next-token.new.self) c.next-token.ensures.place (c.is_semicolon.ensures.some c.if-is_semicolon.true)

pub returns-in_err-name-clause-refused : goal.returns-in_err-name-clause-refused
returns-in_err-name-clause-refused c =
    let after = place c.next-token.new.self in
    let p = err_from_is_err_and c.from_residual-in_err-name.result c.from_residual-in_err-name.ensures.1 in
    rw (p.1, p.2) (subst (λ (r : Reads (List (List ℕ))). Refuses r c.in_err-name.field-0.0) c.names.invariant
    (no_sending (device_refusal (draft c.args.board.now)) (map name_bytes c.names.devices.items) c.next-token.result (place c.names.source) after c.next-token.ensures.place (c.is_semicolon.ensures.none c.if-is_semicolon.false) c.in_err-name.field-0.0 (c.in_err-name.ensures after)))

pub returns-in_err-allowed-clause-refused : goal.returns-in_err-allowed-clause-refused
returns-in_err-allowed-clause-refused c =
    let d = draft c.args.board.now in
    let before = map name_bytes c.names.devices.items in
    let after = place c.next-token.new.self in
    let name = name_bytes c.in_ok-name.name in
    let refused = c.in_err-allowed.ensures.refused in
    let cause : device_refusal d before name ≡ Some refused.0 =
    ap (λ (ns : List Name). device_refusal d (map name_bytes ns) name) (sym c.as_slice.ensures.value) ∙ (sym c.device_refusal.ensures ∙ refused.1) in
    let p = err_from_is_err_and c.from_residual-in_err-allowed.result c.from_residual-in_err-allowed.ensures.1 in
    rw (p.1, p.2) (subst (λ (r : Reads (List (List ℕ))). Refuses r c.in_err-allowed.field-0.0) c.names.invariant
    (sending_refused (device_refusal d) before c.next-token.result (place c.names.source) after c.next-token.ensures.place (c.is_semicolon.ensures.none c.if-is_semicolon.false) name (c.in_ok-name.ensures after) c.in_err-allowed.field-0.0 refused.0 cause refused.2))

pub names-smaller : goal.names-smaller
names-smaller c =
    let after = place c.next-token.new.self in
    sending_smaller (device_refusal (draft c.args.board.now)) (map name_bytes c.names.devices.items) c.next-token.result (place c.names.source) after c.next-token.ensures.place (c.is_semicolon.ensures.none c.if-is_semicolon.false) (name_bytes c.in_ok-name.name) (c.in_ok-name.ensures after)

pub names-preserved : goal.names-preserved
names-preserved c =
    let d = draft c.args.board.now in
    let before = map name_bytes c.names.devices.items in
    let after = place c.next-token.new.self in
    let name = name_bytes c.in_ok-name.name in
    let allowed : device_refusal d before name ≡ None =
    ap (λ (ns : List Name). device_refusal d (map name_bytes ns) name) (sym c.as_slice.ensures.value) ∙ (sym c.device_refusal.ensures ∙ c.in_ok-allowed.ensures.allowed) in
    let on = sending_on (device_refusal d) before c.next-token.result (place c.names.source) after c.next-token.ensures.place (c.is_semicolon.ensures.none c.if-is_semicolon.false) name (c.in_ok-name.ensures after) allowed in
    let longer = ap (map name_bytes) c.in_ok-push-2.ensures.items ∙ map_push name_bytes c.names.devices.items c.in_ok-name.name in
    ap (λ (ns : List (List ℕ)). names_from (device_refusal d) ns after.tokens after) longer ∙ sym on ∙ c.names.invariant
