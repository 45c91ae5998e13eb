-- The items of a brief that means a plan: every value is spelled out, and equal data bytes one after the other are
-- written as one with their number.
use Rattle.std.specs.Prelude.{ℕ, ◌+◌, Bool, ◌&&◌, ◌==◌, nat_lt, List, ◌++◌, map, Option, Some, None, if◌then◌else◌}
use Rattle.message_tree.specs.declared.bits.Pattern.{Pattern}
use Rattle.message_tree.specs.Trees.{FrameTree, write, read, PayloadTree, last, TailTree, stop, again}
use Rattle.message_tree.specs.Trees as trees
use Rattle.plan_core.specs.Contents.{Contents}
use Rattle.plan_core.specs.Labels.{name_at}
use Rattle.plan_text.specs.Values.{address_by}
use Rattle.brief_text.specs.Splitting.{whole}
use Rattle.brief_text.specs.Trees.{spelled, times, BriefFrame, write_to, read_from, BriefBytes, data_byte, no_more}
use Rattle.brief_text.specs.Trees.{BriefTail, stop_here, go_on, BriefItem, message, controller, interrupt, never_both}

-- a data byte, and how often it has stood so far
abbrev pub Run : Type 0
Run = Pattern × ℕ

abbrev pub same_pattern : Pattern → Pattern → Bool
same_pattern p q = p.known == q.known && p.value == q.value

-- the byte goes on with the run, which has 255 at most
abbrev pub goes_on : Run → Pattern → Bool
goes_on run bits = same_pattern run.0 bits && nat_lt run.1 255

-- the run that the byte ends, and the run that it stands in
abbrev pub ended_by : Option Run → Pattern → Option Run
ended_by None bits = None
ended_by (Some run) bits = if goes_on run bits then None else Some run

abbrev pub with_byte : Option Run → Pattern → Run
with_byte None bits = (bits, 1)
with_byte (Some run) bits = (bits, if goes_on run bits then run.1 + 1 else 1)

-- the run, where there is one, and then these
abbrev pub after_run : Option Run → BriefBytes → BriefBytes
after_run None bytes = bytes
after_run (Some run) bytes = data_byte (spelled run.0) (times run.1) stop_here bytes

abbrev mutual
  pub frame_brief : FrameTree → BriefFrame
  frame_brief (write address acked refused) = write_to (spelled address) (tail_brief refused) (bytes_brief acked None)
  frame_brief (read address count after refused) =
      read_from (spelled address) count (tail_brief refused) (tail_brief after)

  -- what follows this run
  pub bytes_brief : PayloadTree → Option Run → BriefBytes
  bytes_brief (trees.byte bits acked stop) run =
      after_run (ended_by run bits) (bytes_brief acked (Some (with_byte run bits)))
  bytes_brief (trees.byte bits acked (again frame)) run =
      after_run run (data_byte (spelled bits) (times 1) (go_on (frame_brief frame)) (bytes_brief acked None))
  bytes_brief (last tail) run = after_run run (no_more (tail_brief tail))

  pub tail_brief : TailTree → BriefTail
  tail_brief stop = stop_here
  tail_brief (again frame) = go_on (frame_brief frame)

-- ---- items

abbrev pub message_brief : List ℕ × FrameTree → BriefItem
message_brief m = message m.0 None (frame_brief m.1)

abbrev pub controller_brief : Contents → List ℕ × List ℕ → BriefItem
controller_brief plan c = controller c.0 (map (name_at plan.messages) c.1)

abbrev pub interrupt_brief : List ℕ × ℕ → BriefItem
interrupt_brief i = interrupt i.0 (spelled (address_by 127 i.1))

abbrev pub never_brief : Contents → ℕ × ℕ → BriefItem
never_brief plan n = never_both (whole (name_at plan.controllers n.0)) (whole (name_at plan.controllers n.1))

unfoldable pub brief_items : Contents → List BriefItem
brief_items plan =
    map message_brief plan.messages
    ++ (map (controller_brief plan) plan.controllers
    ++ (map interrupt_brief plan.interrupts
    ++ map (never_brief plan) plan.nevers))
