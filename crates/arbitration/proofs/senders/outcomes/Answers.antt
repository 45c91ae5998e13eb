use Rattle.std.proofs.Common.{subst}
use Rattle.arbitration.specs.declared.senders.Sent.{Sent}
use Rattle.arbitration.specs.Frames.{trees_of}
use Rattle.arbitration.specs.Senders.{IsSent}
use Rattle.arbitration.proofs.SenderLemmas.{both_messages, interrupted, sent_within}
use Rattle.arbitration.proofs.senders.outcomes.Goals as goal

pub numbers-requires-clause-first : goal.numbers-requires-clause-first
numbers-requires-clause-first c =
    sent_within c.args.frames.now.entries.items c.args.first c.in-Message.m c.in-Message.is c.requires.first.0 c.requires.first.1

pub numbers-requires-clause-second : goal.numbers-requires-clause-second
numbers-requires-clause-second c =
    sent_within c.args.frames.now.entries.items c.args.second c.in-Message-second.n c.in-Message-second.is c.requires.second.0 c.requires.second.1

pub returns-in-Message-second : goal.returns-in-Message-second
returns-in-Message-second c s t i j =
    let known = trees_of c.args.frames.now.entries.items in
    both_messages known c.in-Message.m c.in-Message-second.n c.numbers.result c.numbers.ensures s t (subst (λ (v : Sent). IsSent known v s) c.in-Message.is i) (subst (λ (w : Sent). IsSent known w t) c.in-Message-second.is j)

pub returns-in-Interrupt-second : goal.returns-in-Interrupt-second
returns-in-Interrupt-second c s t i j =
    let known = trees_of c.args.frames.now.entries.items in
    interrupted known c.args.first c.args.second s t c.partings.result i j (λ m n e f. let g = c.in-Interrupt-second.is in cc) (c.partings.ensures _ _ (c.first_header.ensures s (subst (λ (v : Sent). IsSent known v s) c.in-Message.is i)) (c.first_header-in-Interrupt-second.ensures t j))

pub returns-in-Interrupt : goal.returns-in-Interrupt
returns-in-Interrupt c s t i j =
    let known = trees_of c.args.frames.now.entries.items in
    interrupted known c.args.first c.args.second s t c.partings-in-Interrupt.result i j (λ m n e f. let g = c.in-Interrupt.is in cc) (c.partings-in-Interrupt.ensures _ _ (c.first_header-in-Interrupt.ensures s i) (c.first_header-in-Interrupt-2.ensures t j))
