use Rattle.std.proofs.Common.{inl, inr, refl, ◌∙◌, ap}
use Rattle.byte_lines.proofs.writing.ByteWritingTransactionSink.take.Goals as goal

pub returns-else-len-ge-BLOCK-clause-taken : goal.returns-else-len-ge-BLOCK-clause-taken
returns-else-len-ge-BLOCK-clause-taken g c =
    let told = c.in_ok-take.ensures.taken in
    record {
      same_writer = refl;
      live = refl;
      lines = inl (record { blocks = c.if-self.false; same = refl; lines = told.lines });
      transactions = told.transactions;
      stopped = told.stopped;
    }
