use Rattle.std.proofs.Common.{sym}
use Rattle.brief_text.proofs.BoardLemmas.{any_address_is}
use Rattle.brief_text.proofs.groups.open_address.Goals as goal

pub returns : goal.returns
returns c = sym (any_address_is c.new.result c.new.ensures)
