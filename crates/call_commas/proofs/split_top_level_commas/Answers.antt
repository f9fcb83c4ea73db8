-- `call_commas::split_top_level_commas` meets its contract, by the comma search in the rest of the text. Assumes nothing.
use Rattle.call_commas.specs.Split.{seen-splits-at, seen-splits-end}
use Rattle.call_commas.proofs.split_top_level_commas.Goals as goal

pub returns-in_default : goal.returns-in_default
returns-in_default c =
    let both = seen-splits-end c.requires.start_in_bounds.0 c.requires.sees c.find_comma.ensures c.in_default.is in record { splits = both.0; sees_next = both.1 }

-- the comma that has been found ends the part
pub returns : goal.returns
returns c =
    let both = seen-splits-at c.requires.start_in_bounds.0 c.requires.sees c.find_comma.ensures c.in-Some.is in record { splits = both.0; sees_next = both.1 }
