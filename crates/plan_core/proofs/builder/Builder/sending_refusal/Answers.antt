use Rattle.std.proofs.Common.{◌≡◌, ◌+◌, ◌<◌, ◌≤◌, Bool, true, false, not, List, ℕ, [], ◌∷◌, length, map, Some, None, is_some, sym, ◌∙◌, ap, arith}
use Rattle.std.specs.List.{list_any}
use Rattle.std.specs.Prelude.{nat_le, if◌then◌else◌}
use Rattle.std.specs.Str.{bytes_eq}
use Rattle.std.proofs.lemmas.Bool.{le-leb, lt-leb}
use Rattle.std.proofs.lemmas.List.{length-map}
use Rattle.plan_core.specs.Building.{has_name, list_refusal}
use Rattle.plan_core.specs.Contents.{Contents}
use Rattle.plan_core.specs.Limits.{sending_count}
use Rattle.plan_core.specs.NameBytes.{name_bytes}
use Rattle.plan_core.specs.BuilderContents.{builder_contents}
use Rattle.plan_core.specs.declared.builder.BuildError.TheVariants.{Twice, Unknown, TooMany}
use Rattle.plan_core.specs.declared.names.Name.{Name}
use Rattle.plan_core.proofs.StepLemmas.{list_any-map}
use Rattle.plan_core.proofs.builder.Builder.sending_refusal.Goals as goal

-- the answer, by the three tests
answer : (plan : Contents) (before : List (List ℕ)) (name : List ℕ) (known twice many : Bool) → has_name name plan.messages ≡ known → list_any (λ other. bytes_eq other name) before ≡ twice → nat_le 512 (sending_count plan.controllers + length before) ≡ many → (if not known then Some Unknown else if twice then Some Twice else if many then Some TooMany else None) ≡ list_refusal plan before (name ∷ [])
answer plan before name known twice many is_known is_twice are_many =
    sym (λ i. if not (is_known i) then Some Unknown else if is_twice i then Some Twice else if are_many i then Some TooMany else None)

-- the names before, as the plan sees them
among : (before : List Name) (name : List ℕ) (b : Bool) → b ≡ list_any (λ other. bytes_eq (name_bytes other) name) before → list_any (λ other. bytes_eq other name) (map name_bytes before) ≡ b
among before name b is = list_any-map (λ other. bytes_eq other name) name_bytes before ∙ sym is

pub returns-then-contains : goal.returns-then-contains
returns-then-contains c =
    let plan = builder_contents c.args.self.now in
    let before = map name_bytes c.args.before.now in
    let name = name_bytes c.args.name.now in
    let known : has_name name plan.messages ≡ true = ap is_some (sym c.message_number.ensures) ∙ c.if-is_none.ensures in
    let twice = among c.args.before.now name true (sym c.if-contains.true ∙ c.contains.ensures.value) in
    answer plan before name true true (nat_le 512 (sending_count plan.controllers + length before)) known twice (λ i. nat_le 512 (sending_count plan.controllers + length before))

pub returns-then-sendings-before : goal.returns-then-sendings-before
returns-then-sendings-before c =
    let plan = builder_contents c.args.self.now in
    let before = map name_bytes c.args.before.now in
    let name = name_bytes c.args.name.now in
    let known : has_name name plan.messages ≡ true = ap is_some (sym c.message_number.ensures) ∙ c.if-is_none.ensures in
    let fresh = among c.args.before.now name false (sym c.if-contains.false ∙ c.contains.ensures.value) in
    let many : 512 ≤ sending_count plan.controllers + length before = omega (arith, length-map {B = List ℕ} c.args.before.now name_bytes, c.if-sendings-before.true, c.sendings.ensures) in
    answer plan before name true false true known fresh (le-leb 512 (sending_count plan.controllers + length before) many)

pub returns-else-sendings-before : goal.returns-else-sendings-before
returns-else-sendings-before c =
    let plan = builder_contents c.args.self.now in
    let before = map name_bytes c.args.before.now in
    let name = name_bytes c.args.name.now in
    let known : has_name name plan.messages ≡ true = ap is_some (sym c.message_number.ensures) ∙ c.if-is_none.ensures in
    let fresh = among c.args.before.now name false (sym c.if-contains.false ∙ c.contains.ensures.value) in
    let few : sending_count plan.controllers + length before < 512 = omega (arith, length-map {B = List ℕ} c.args.before.now name_bytes, c.if-sendings-before.false, c.sendings.ensures) in
    answer plan before name true false false known fresh (lt-leb 512 (sending_count plan.controllers + length before) few)
