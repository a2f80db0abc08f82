use Rattle.std.proofs.Common.{◌≡◌, List, ap, get_or, ◌∙◌}
use Rattle.std.proofs.lemmas.List.{get_or_default}
use Rattle.st_tree.specs.declared.leaf.Leaf.{Leaf}
use Rattle.st_leaves.specs.Sound.{IsSound}
use Rattle.st_layout.specs.Layout.{leaf_at, no_leaf, number_of}
use Rattle.st_layout.proofs.Paths.{number-own}
use Rattle.st_layout.proofs.layout.Layout.at.Goals as goal

pub returns-clause-found : goal.returns-clause-found
returns-clause-found c =
    let sound : IsSound c.args.self.now = rw (← c.self.view_is) c.self.invariant.sound in
    let here : Leaf = c.index-as_slice-leaf.result in
    let same : c.entry.inside.leaf ≡ leaf_at c.args.self.now c.args.leaf =
    c.entry.view_is
    ∙ (c.index-as_slice-leaf.is
    ∙ (ap (λ (leaves : List Leaf). get_or leaves c.args.leaf here) (c.as_slice.ensures.keys ∙ c.self.view_is) ∙ get_or_default c.args.self.now c.args.leaf here no_leaf c.requires)) in
    ap (λ (leaf : Leaf). number_of c.args.self.now leaf.path) same ∙ number-own c.args.self.now c.args.leaf sound c.requires
