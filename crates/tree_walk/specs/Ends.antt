-- What a walk leaves known of a tree besides its numbers.
use Rattle.std.specs.Prelude.{Bool}
use Rattle.tree_walk.specs.declared.ends.TreeEnds.{TreeEnds}

-- the walk found the values of all rows whole on their leaves, in no more bytes than their types take
abbrev pub lies_whole : TreeEnds → Bool
lies_whole ends = ends.made.whole
