use Rattle.std.proofs.Common.{ℕ, List, [], ◌∷◌, ◌++◌, ap, sym, ◌∙◌}
use Rattle.std.specs.List.{flat_map}
use Rattle.std.proofs.lemmas.List.{take_all}
use Rattle.std.proofs.lemmas.List.Concat.{flat_map_single}
use Rattle.plan_core.specs.NameBytes.{name_bytes}
use Rattle.plan_core.specs.declared.names.Name.{Name}
use Rattle.brief_text.specs.Standing.{entries_of}
use Rattle.brief_text.proofs.BoardLemmas.{names_over}
use Rattle.brief_text.proofs.PushLemmas.{one_further}
use Rattle.brief_text.proofs.naming.Named.add_all.Goals as goal

pub loop-name-preserved : goal.loop-name-preserved
loop-name-preserved t c =
    one_further (λ (it : Name). (name_bytes it, c.args.value) ∷ []) c.args.names.now (entries_of c.args.self.now) _ _ c.loop-name.name-index c.name-item.result c.loop-name-test.true c.name-item.is c.loop-name.invariant c.in_ok-add_copied.ensures

pub returns : goal.returns
returns t c =
    c.loop-name.invariant
    ∙ ap (λ (them : List Name). entries_of c.args.self.now ++ flat_map (λ it. (name_bytes it, c.args.value) ∷ []) them) (take_all c.loop-name.name-index c.args.names.now c.loop-name-test.false)
    ∙ ap (λ them. entries_of c.args.self.now ++ them) (flat_map_single (λ it. (name_bytes it, c.args.value)) c.args.names.now ∙ sym (names_over (λ (name : List ℕ). (name, c.args.value)) c.args.names.now))
