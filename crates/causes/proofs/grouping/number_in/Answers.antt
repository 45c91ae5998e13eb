use Rattle.std.proofs.Common.{◌≡◌, true, sym, ◌∙◌, rules}
use Rattle.std.specs.Option.{is_some}
use Rattle.indexmap.specs.IndexSet.{keys}
use Rattle.causes.proofs.Lookups.{any_at, index_found}
use Rattle.causes.proofs.grouping.number_in.Goals as goal

pub unwrap-requires : goal.unwrap-requires
unwrap-requires c =
    let found : is_some c.get_index_of.result ≡ true = c.get_index_of.ensures.found ∙ any_at c.args.cause.now (keys c.args.known.now) c.requires.0 c.requires.1 in
    search rules

pub returns : goal.returns
returns c =
    index_found c.args.cause.now (keys c.args.known.now) c.unwrap.result (sym c.get_index_of.ensures.index ∙ c.unwrap.ensures)
