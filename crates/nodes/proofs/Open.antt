-- The definitions of this crate opened together, for what is computed with them. Assumes nothing.
use Rattle.nodes.specs.Sets.{no_node, bit, has, union, meet, minus, single, with, below, inside, members_from, members, size, gather, set_of}
use Rattle.nodes.specs.Words.{num, as_set, to_come}

unfoldable pub open_nodes : Unit {0}
unfolding no_node bit has union meet minus single with below inside members_from members size gather set_of num as_set to_come
open_nodes = tt
