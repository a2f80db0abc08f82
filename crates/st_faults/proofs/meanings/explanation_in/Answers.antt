use Rattle.std.proofs.Common.{rules, tests, ◌≡◌, ◌∙◌, sym, ap, Bor, List, ℕ, Option, map}
use Rattle.std.proofs.lemmas.Iterator.{YieldsList-from_slice}
use Rattle.std.proofs.lemmas.Iterator.Search.{find_from_yields_List}
use Rattle.std.specs.List.{find}
use Rattle.std.specs.Prelude.{option_map}
use Rattle.st_faults.specs.Meanings.{Meaning, has_number, meaning, meaning_of}
use Rattle.st_faults.proofs.Rows.{found_in}
use Rattle.st_faults.proofs.meanings.explanation_in.Goals.{After-find}
use Rattle.st_faults.proofs.meanings.explanation_in.Goals as goal

-- a row of a table
abbrev Row : Type 0
Row = ℕ × Bor (List ℕ) × Bor (List ℕ) × Bor (List ℕ)

abbrev meaning_in : Row → Meaning
meaning_in row = meaning row.0 row.1.now row.2.now row.3.now

-- what the row that was found means
abbrev seen : Option (Bor Row) → Option Meaning
seen found = option_map meaning_in (option_map (λ row. row.now) found)

-- `find` gives the first row with the number
found : (c : After-find) → seen c.find.result ≡ find (has_number c.args.number) (map meaning_in c.args.rows.now)
found c = ap (option_map meaning_in)
    (find_from_yields_List (λ row. has_number c.args.number (meaning_in row)) _ _ c.find.result c.find.ensures.ran (YieldsList-from_slice c.args.rows.now cc) (λ x b q k. search (rules, tests)))
    ∙ found_in c.args.rows.now meaning_in c.args.number

pub returns : goal.returns
returns c = ap seen (sym c.in_ok-row.was) ∙ found (goal.at-returns c).After-find

pub returns-in_err-row : goal.returns-in_err-row
returns-in_err-row c = ap (option_map meaning_of) c.from_residual.ensures ∙ ap seen (sym c.in_err-row.was) ∙ found (goal.at-returns-in_err-row c).After-find
