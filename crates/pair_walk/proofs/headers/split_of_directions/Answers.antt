use Rattle.std.proofs.Common.{refl, inl, inr}
use Rattle.message_tree.specs.declared.bits.Bit.TheVariants.{Zero, One}
use Rattle.message_tree.specs.Patterns.{address_bits}
use Rattle.message_tree.specs.Texts.{write_header, read_header}
use Rattle.pair_walk.proofs.Nodes.{directions_split, length_of_address}
use Rattle.pair_walk.proofs.headers.split_of_directions.Goals as goal

pub returns-clause-write_first : goal.returns-clause-write_first
returns-clause-write_first c =
    let a = c.args.a.now in
    let b = c.args.b.now in
    directions_split (address_bits a) (address_bits b) (write_header a) (read_header b) Zero One c.first_split.result c.unwrap_or.result refl refl (length_of_address a) (length_of_address b) (inl (refl, refl)) c.first_split.ensures c.unwrap_or.ensures

pub returns-clause-read_first : goal.returns-clause-read_first
returns-clause-read_first c =
    let a = c.args.a.now in
    let b = c.args.b.now in
    directions_split (address_bits a) (address_bits b) (read_header a) (write_header b) One Zero c.first_split.result c.unwrap_or.result refl refl (length_of_address a) (length_of_address b) (inr (refl, refl)) c.first_split.ensures c.unwrap_or.ensures
