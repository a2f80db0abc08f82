-- The steps of the reading functions that recurse.
use Rattle.std.proofs.Common.{◌≡◌, ℕ, zero, suc, ◌-◌, ◌<◌, refl, sub-one, arith}
use Rattle.st_parser.specs.Reader.Expressions.{expression}
use Rattle.st_syntax.specs.Reader.Statements.{deeper_of, block}

pub deeper_expression : (depth_left : ℕ) → 0 < depth_left → (deeper_of depth_left).expression ≡ expression (depth_left - 1)
unfolding deeper_of
deeper_expression zero some = absurd (omega arith)
deeper_expression (suc depth_left) some = rw sub-one refl

pub deeper_statements : (depth_left : ℕ) → 0 < depth_left → (deeper_of depth_left).statements ≡ block (depth_left - 1) (deeper_of (depth_left - 1))
unfolding deeper_of
deeper_statements zero some = absurd (omega arith)
deeper_statements (suc depth_left) some = rw sub-one refl
