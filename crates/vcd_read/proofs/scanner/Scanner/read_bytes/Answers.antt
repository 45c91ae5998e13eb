use Rattle.std.proofs.Common.{◌+◌, ◌-◌, length, arith, sym, ◌∙◌}
use Rattle.vcd_read.specs.Pieces.{kept_of}
use Rattle.vcd_read.proofs.ScanLemmas.{length-range, white_goes_on, other_goes_on, room_for_less, room_for_fewer}
use Rattle.vcd_read.proofs.scanner.Scanner.read_bytes.Goals as goal
use Rattle.vcd_read.proofs.scanner.Scanner.read_bytes.Goals.{then-is_white+in_ok-end_token, else-is_white}

pub returns-in_err-end_token-clause-token_room : goal.returns-in_err-end_token-clause-token_room
returns-in_err-end_token-clause-token_room g c =
    let size = length-range c.args.piece.now c.loop-at.start c.loop-at.at (omega arith) in
    c.end_token.ensures.token_room 0 (room_for_less _ (length c.args.piece.now - c.loop-at.start) c.loop-at.self (omega arith) c.loop-at.invariant.token_room)

pub returns-in_err-end_token-clause-samples_room : goal.returns-in_err-end_token-clause-samples_room
returns-in_err-end_token-clause-samples_room g c =
    c.end_token.ensures.samples_room 2 (room_for_fewer _ (length c.args.piece.now - c.loop-at.at + 2) c.loop-at.self (omega arith) c.loop-at.invariant.samples_room)

pub loop-at-preserved : goal.loop-at-preserved
loop-at-preserved g c =
    elim c.if-is_white.branch [
      | then-is_white+in_ok-end_token w ↦
          let size = length-range c.args.piece.now c.loop-at.start c.loop-at.at (omega arith) in
          rw (w.self-is, w.start-is) (record {
            start = omega arith;
            rest = white_goes_on _ (kept_of w.end_token.new.self) c.args.piece.now c.loop-at.at _ c.loop-at-test.true (sym c.is_white.ensures ∙ w.if-is_white.true) w.in_ok-end_token.ensures.kept w.line_after-self.ensures
                ∙ c.loop-at.invariant.rest;
            token_room = w.end_token.ensures.token_room (length c.args.piece.now - (c.loop-at.at + 1)) (room_for_less _ (length c.args.piece.now - c.loop-at.start) c.loop-at.self (omega arith) c.loop-at.invariant.token_room);
            samples_room = w.end_token.ensures.samples_room (length c.args.piece.now - (c.loop-at.at + 1) + 2) (room_for_fewer _ (length c.args.piece.now - c.loop-at.at + 2) c.loop-at.self (omega arith) c.loop-at.invariant.samples_room);
          })
      | else-is_white w ↦
          rw (w.self-is, w.start-is) (record {
            start = omega arith;
            rest = other_goes_on (kept_of c.loop-at.self) c.args.piece.now c.loop-at.start c.loop-at.at c.loop-at.invariant.start c.loop-at-test.true (sym c.is_white.ensures ∙ w.if-is_white.false)
                ∙ c.loop-at.invariant.rest;
            token_room = c.loop-at.invariant.token_room;
            samples_room = room_for_fewer _ (length c.args.piece.now - c.loop-at.at + 2) c.loop-at.self (omega arith) c.loop-at.invariant.samples_room;
          })
    ]
