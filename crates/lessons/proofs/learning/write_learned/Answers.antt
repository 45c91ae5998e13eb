use Rattle.std.proofs.Common.{refl, string_bytes}
use Rattle.lessons.proofs.learning.write_learned.Goals as goal

pub returns-in-Ok-write_brief : goal.returns-in-Ok-write_brief
returns-in-Ok-write_brief g c =
    let all = c.in-Ok.ensures in
    record {
      texts = all.0;
      read = all.1;
      report = string_bytes c.in-Ok.learned.brief;
      due = record { learned = c.in-Ok.learned; learns = all.2; brief = refl; ended = c.in-Ok-write_brief.ensures.status };
      written = c.in-Ok-write_brief.ensures.written;
    }
