use Rattle.std.proofs.Common.{◌≡◌, ◌∙◌, Some, ap, arith}
use Rattle.std.proofs.lemmas.Option.{slice_get_within}
use Rattle.verdicts.proofs.FaultLemmas.{entry_count, listed_entry, one_fault_there}
use Rattle.verdicts.proofs.listed.Faults.get.Goals as goal

pub index-requires : goal.index-requires
index-requires c =
    let faults = c.args.self.now in
    omega (arith, c.requires, faults.listed.ok.0, entry_count faults.known.items faults.listed.items faults.all_unsafe)

pub index-requires-2 : goal.index-requires-2
index-requires-2 c =
    let faults = c.args.self.now in
    let entry = listed_entry faults.known.items faults.listed.items c.args.k c.index.result.now faults.all_unsafe c.requires c.index.ensures in
    omega (arith, faults.known.ok.0, slice_get_within faults.known.items c.index.result.now.place _ entry.stands)

pub unreachable-requires : goal.unreachable-requires
unreachable-requires c =
    let faults = c.args.self.now in
    let entry = listed_entry faults.known.items faults.listed.items c.args.k c.index.result.now faults.all_unsafe c.requires c.index.ensures in
    c.in_default.not-Unsafe entry.fault (one_fault_there faults.known.items c.index.result.now.place c.index-2.result.now entry.fault entry.stands c.index-2.ensures)

pub returns : goal.returns
returns c =
    let faults = c.args.self.now in
    let entry = listed_entry faults.known.items faults.listed.items c.args.k c.index.result.now faults.all_unsafe c.requires c.index.ensures in
    let same = one_fault_there faults.known.items c.index.result.now.place c.index-2.result.now entry.fault entry.stands c.index-2.ensures in
    let fault : entry.fault ≡ c.in-Unsafe.fault = cc in
    entry.listed_so ∙ ap (λ f. Some (c.index.result.now.pair, f)) fault
