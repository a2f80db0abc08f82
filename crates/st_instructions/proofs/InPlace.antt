-- Standard function blocks among the variables of a function.
use Rattle.std.proofs.Common.{◌≡◌, ℕ, zero, suc, ◌+◌, pos, List, [], ◌∷◌, ◌++◌, length, take, drop, IsTrue, refl, sym, ap, ◌∙◌, arith, drop-drop}
use Rattle.std.specs.List.{All, AllZip}
use Rattle.std.proofs.lemmas.List.Elements.{All-append, All-cons, All-drop, All-nil, All-take}
use Rattle.std.proofs.lemmas.Slice.Zip.{AllZip-long}
use Rattle.st_values.specs.Values.{IsValue, IsOfType}
use Rattle.st_values.specs.declared.elem.Elem.{Elem}
use Rattle.st_types.specs.declared.standard.StandardBlock.{StandardBlock}
use Rattle.st_blocks.specs.Cells.{AreLeavesOf, types_of}
use Rattle.st_blocks.specs.Steps.{stepped}
use Rattle.st_meaning.specs.Meaning.{Values}
use Rattle.st_meaning.specs.Statements.{block_done, stretch, unless_forced, with_stretch}
use Rattle.st_code.specs.Machine.{has_leaves}
use Rattle.st_chart_runs.specs.Views.{setting_at}
use Rattle.st_instructions.proofs.Invocations.{block_is, leaves_read}

-- what isn't forced has the new value
unmarked : (old new : Values) → length old ≡ length new → unless_forced [] old new ≡ new
unmarked [] [] h = refl
unmarked [] (w ∷ new) h = absurd (omega (arith, h))
unmarked (v ∷ old) [] h = absurd (omega (arith, h))
unmarked (v ∷ old) (w ∷ new) h = ap (λ (vs : Values). w ∷ vs) (unmarked old new (omega (arith, h)))

unforced : (n : ℕ) (old new : Values) → length old ≡ length new → unless_forced (drop n []) old new ≡ new
unforced zero old new h = unmarked old new h
unforced (suc n) old new h = unmarked old new h

all_values : (es : List Elem) (values : Values) → AllZip IsOfType es values → All IsValue values
all_values [] [] h = All-nil IsValue
all_values [] (v ∷ values) h = absurd h
all_values (e ∷ es) [] h = absurd h
all_values (e ∷ es) (v ∷ values) h = All-cons IsValue v values h.0.1 (all_values es values h.1)

-- the values of its leaves are those that the block takes
pub cells_read : (b : StandardBlock) (leaf k : ℕ) (values : Values) → IsTrue (has_leaves values b leaf) → k ≡ length (types_of b) → AreLeavesOf b (take k (drop leaf values))
cells_read b leaf k values has many = leaves_read b values (take k (drop leaf values)) leaf has (ap (λ n. take n (drop leaf values)) many)

module _ (b : StandardBlock) (leaf k : ℕ) (values new : Values) (has : IsTrue (has_leaves values b leaf)) (many : k ≡ length (types_of b)) (all : AreLeavesOf b new) where
  -- all are values still
  pub block_values : All IsValue values → All IsValue (take leaf values ++ (new ++ drop k (drop leaf values)))
  block_values before =
      All-append IsValue (take leaf values) (new ++ drop k (drop leaf values)) (All-take IsValue leaf values before)
      (All-append IsValue new (drop k (drop leaf values)) (all_values (types_of b) new all) (All-drop IsValue k (drop leaf values) (All-drop IsValue leaf values before)))

  long : length new ≡ k
  long = AllZip-long IsOfType (types_of b) new all ∙ sym many

  -- what the block has made of its leaves stands in their place
  pub block_placed : new ≡ stepped b (take k (drop leaf values)) (pos 0) → take leaf values ++ (new ++ drop k (drop leaf values)) ≡ block_done (setting_at (pos 0) []) b leaf values
  block_placed step =
      let as_many : length (stretch values leaf (length new)) ≡ length new =
      ap (λ n. length (stretch values leaf n)) long ∙ AllZip-long IsOfType (types_of b) (take k (drop leaf values)) (cells_read b leaf k values has many) ∙ sym many ∙ sym long in
      ap (λ (vs : Values). take leaf values ++ (new ++ vs)) (drop-drop k leaf values ∙ ap (λ n. drop (leaf + n) values) (sym long))
      ∙ ap (with_stretch values leaf) (sym (unforced leaf (stretch values leaf (length new)) new as_many))
      ∙ block_is (pos 0) [] b leaf values (take k (drop leaf values)) new (ap (λ n. take n (drop leaf values)) many) step all
