use Rattle.std.proofs.Common.{◌≡◌, ◌+◌, ◌++◌, ◌∷◌, [], map, take, sym, ◌∙◌, ap}
use Rattle.std.specs.List.{cons_option}
use Rattle.std.specs.Vec.{vec_items}
use Rattle.std.proofs.lemmas.List.{append-nil}
use Rattle.plan_core.specs.Building.{number_of, numbers_of}
use Rattle.plan_core.specs.NameBytes.{name_bytes}
use Rattle.plan_core.specs.BuilderContents.{builder_contents}
use Rattle.plan_core.proofs.StepLemmas.{numbers_of-more}
use Rattle.plan_core.proofs.builder.Builder.numbers_of.Goals as goal
use Rattle.plan_core.proofs.builder.Builder.numbers_of.Goals.{in-Some+in_ok-push, in_default}

pub loop-name-preserved : goal.loop-name-preserved
loop-name-preserved c =
    let plan = builder_contents c.args.self.now in
    let messages = c.args.messages.now in
    let i = c.loop-name.name-index in
    let name = c.name-item.result in
    let so_far = numbers_of plan (map name_bytes (take i messages)) in
    let more : numbers_of plan (map name_bytes (take (i + 1) messages)) ≡ so_far ++ cons_option (number_of (name_bytes name) plan.messages) [] = numbers_of-more plan messages i name c.loop-name-test.true ∙ ap (λ n. so_far ++ cons_option (number_of (name_bytes n) plan.messages) []) (sym c.name-item.is) in
    elim c.match-message_number.branch [
      | in-Some+in_ok-push w ↦
          ap vec_items w.numbers-is ∙ w.in_ok-push.ensures.items ∙ ap (λ xs. xs ++ w.in-Some.k ∷ []) c.loop-name.invariant
          ∙ ap (λ o. so_far ++ cons_option o []) (sym w.in-Some.is ∙ c.message_number.ensures) ∙ sym more
      | in_default w ↦
          ap vec_items w.numbers-is ∙ c.loop-name.invariant ∙ sym (append-nil so_far)
          ∙ ap (λ o. so_far ++ cons_option o []) (sym w.in_default.is ∙ c.message_number.ensures) ∙ sym more
    ]
