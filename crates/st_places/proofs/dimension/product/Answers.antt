use Rattle.std.proofs.Common.{◌≡◌, ◌*◌, ◌∙◌, ap, arith}
use Rattle.std.specs.Prelude.{min}
use Rattle.st_leaves.proofs.Products.{capped, stopped}
use Rattle.st_places.proofs.dimension.product.Goals as goal

pub returns : goal.returns
returns c = λ m n a b.
    let stops : c.min.result ≡ min (c.args.a * c.args.b) 1000000 = stopped c.args.a c.args.b c.min.result c.saturating_mul.ensures c.min.ensures in
    stops ∙ ap (λ x. min (x * c.args.b) 1000000) a ∙ ap (λ x. min (min m 1000000 * x) 1000000) b ∙ capped 1000000 m n (omega arith)
