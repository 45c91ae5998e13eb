use Rattle.std.proofs.Common.{rules, ◌≡◌, List, [], ◌∷◌, ◌++◌, ℕ, Some, None, map, ap, sym, ◌∙◌, subst, refl}
use Rattle.std.proofs.lemmas.Grind.{flat_map-append}
use Rattle.std.proofs.lemmas.List.{append-nil}
use Rattle.std.proofs.lemmas.Result.{err_from_is_err_and}
use Rattle.plan_core.specs.NameBytes.{name_bytes}
use Rattle.plan_core.specs.declared.names.Name.{Name}
use Rattle.plan_text.specs.Places.{Refuses}
use Rattle.brief_text.specs.Drafts.{stands_for}
use Rattle.brief_text.specs.Items.{listed_refusal}
use Rattle.brief_text.specs.Judging.{listing_refusal, all_of}
use Rattle.brief_text.specs.Places.{Reads}
use Rattle.brief_text.specs.Standing.{place, draft}
use Rattle.brief_text.proofs.ValueLemmas.{sendings_end, no_sending, sending_refused, sending_on, sending_smaller}
use Rattle.brief_text.proofs.items.listed.Goals as goal

pub names-init : goal.names-init
names-init c =
    let none : c.new-messages.result.items ≡ [] = search rules in
    ([], refl, ap (map name_bytes) none)

pub returns-in_err-name : goal.returns-in_err-name
returns-in_err-name c =
    let i = c.names.invariant in
    let d = draft c.args.board.now in
    let has = map name_bytes c.args.has.now in
    let after = place c.next-token.new.self in
    let p = err_from_is_err_and c.from_residual.result c.from_residual.ensures.1 in
    rw (p.1, p.2) (record {
      read = tt;
      refused = subst (λ (r : Reads (List (List ℕ))). Refuses r c.in_err-name.field-0.0) i.1 (no_sending (listed_refusal d has) i.0 c.next-token.result (place c.names.source) after c.next-token.ensures.place (c.is_semicolon.ensures.none c.if-is_semicolon.false) c.in_err-name.field-0.0 (c.in_err-name.ensures after));
    })

pub returns-in_err-allowed : goal.returns-in_err-allowed
returns-in_err-allowed c =
    let i = c.names.invariant in
    let d = draft c.args.board.now in
    let has = map name_bytes c.args.has.now in
    let after = place c.next-token.new.self in
    let name = name_bytes c.in_ok-name.name in
    let refused = c.in_err-allowed.ensures.refused in
    let cause : listing_refusal d has (all_of d i.0) name ≡ Some refused.0 =
    ap (λ (ns : List (List ℕ)). listing_refusal d has ns name) (sym i.2)
    ∙ (ap (λ (ns : List Name). listing_refusal d has (map name_bytes ns) name) (sym c.as_slice.ensures.value) ∙ (sym c.listing_refusal.ensures ∙ refused.1)) in
    let p = err_from_is_err_and c.from_residual-in_err-allowed.result c.from_residual-in_err-allowed.ensures.1 in
    rw (p.1, p.2) (record {
      read = tt;
      refused = subst (λ (r : Reads (List (List ℕ))). Refuses r c.in_err-allowed.field-0.0) i.1 (sending_refused (listed_refusal d has) i.0 c.next-token.result (place c.names.source) after c.next-token.ensures.place (c.is_semicolon.ensures.none c.if-is_semicolon.false) name (c.in_ok-name.ensures after) c.in_err-allowed.field-0.0 refused.0 cause refused.2);
    })

pub returns-then-is_semicolon : goal.returns-then-is_semicolon
returns-then-is_semicolon c =
    let i = c.names.invariant in
    let d = draft c.args.board.now in
    let has = map name_bytes c.args.has.now in
    record {
      read = (i.0, sym i.1 ∙ sendings_end (listed_refusal d has) i.0 c.next-token.result (place c.names.source) (place c.next-token.new.self) c.next-token.ensures.place (c.is_semicolon.ensures.some c.if-is_semicolon.true), i.2);
      refused = tt;
    }

pub names-smaller : goal.names-smaller
names-smaller c =
    let i = c.names.invariant in
    let after = place c.next-token.new.self in
    sending_smaller (listed_refusal (draft c.args.board.now) (map name_bytes c.args.has.now)) i.0 c.next-token.result (place c.names.source) after c.next-token.ensures.place (c.is_semicolon.ensures.none c.if-is_semicolon.false) (name_bytes c.in_ok-name.name) (c.in_ok-name.ensures after)

pub names-preserved : goal.names-preserved
names-preserved c =
    let i = c.names.invariant in
    let d = draft c.args.board.now in
    let has = map name_bytes c.args.has.now in
    let after = place c.next-token.new.self in
    let name = name_bytes c.in_ok-name.name in
    let allowed : listing_refusal d has (all_of d i.0) name ≡ None =
    ap (λ (ns : List (List ℕ)). listing_refusal d has ns name) (sym i.2)
    ∙ (ap (λ (ns : List Name). listing_refusal d has (map name_bytes ns) name) (sym c.as_slice.ensures.value) ∙ (sym c.listing_refusal.ensures ∙ c.in_ok-allowed.ensures.allowed)) in
    let on = sending_on (listed_refusal d has) i.0 c.next-token.result (place c.names.source) after c.next-token.ensures.place (c.is_semicolon.ensures.none c.if-is_semicolon.false) name (c.in_ok-name.ensures after) allowed in
    let one : all_of d (name ∷ []) ≡ stands_for d name = append-nil (stands_for d name) in (
      i.0 ++ name ∷ [],
      sym on ∙ i.1,
      c.in_ok-push_all.ensures ∙ ap (λ (ns : List Name). map name_bytes c.names.messages.items ++ map name_bytes ns) c.as_slice-in-names-2.ensures.value
          ∙ ap (λ ns. map name_bytes c.names.messages.items ++ ns) c.in_ok-further.ensures ∙ ap (λ ns. ns ++ stands_for d name) i.2 ∙ ap (λ ns. all_of d i.0 ++ ns) (sym one) ∙ sym (flat_map-append (stands_for d) i.0 (name ∷ [])),
    )
