use Rattle.std.proofs.Common.{◌≡◌, ◌++◌, take}
use Rattle.std.specs.List.{flat_map}
use Rattle.st_meaning.specs.Sketched.{link_in}
use Rattle.st_meaning.proofs.parts.add_links.Given as goal

-- the associations so far
abbrev pub invariant-associations : goal.invariant-associations
invariant-associations l = l.links.items ≡ l.initial.links.items ++ flat_map (link_in l.names l.step) (take l.association-index l.associations)
