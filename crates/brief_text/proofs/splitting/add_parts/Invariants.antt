use Rattle.std.proofs.Common.{◌≡◌, map, drop}
use Rattle.plan_core.specs.BuilderContents.{builder_contents}
use Rattle.brief_text.specs.Parting.{part}
use Rattle.brief_text.specs.Splitting.{with_parts}
use Rattle.brief_text.proofs.splitting.add_parts.Given as goal

abbrev pub invariant-loop-part : goal.invariant-loop-part
invariant-loop-part l =
    with_parts (builder_contents l.builder) (map part (drop l.part-index l.parts)) ≡ with_parts (builder_contents l.initial.builder) (map part l.parts)
