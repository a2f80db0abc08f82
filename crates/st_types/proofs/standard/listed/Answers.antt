use Rattle.std.proofs.Common.{rules, tests, ◌≡◌, ◌∙◌, sym, ap, Bor, List, ℕ, Option, map}
use Rattle.std.proofs.lemmas.Iterator.{YieldsList-from_slice}
use Rattle.std.proofs.lemmas.Iterator.Search.{find_from_yields_List}
use Rattle.std.specs.Prelude.{option_map}
use Rattle.st_values.specs.Words.{is_word}
use Rattle.st_types.specs.Standard.{entry, entry_named}
use Rattle.st_types.specs.declared.standard.Standard.{Standard}
use Rattle.st_types.proofs.Entries.{found_in}
use Rattle.st_types.proofs.standard.listed.Goals.{After-find}
use Rattle.st_types.proofs.standard.listed.Goals as goal

-- what the row that was found stands for
abbrev standard_in : Option (Bor (Standard × Bor (List ℕ))) → Option Standard
standard_in found = option_map (λ row. row.0) (option_map (λ row. row.now) found)

-- `find` gives the first row with the name
found : (c : After-find) → standard_in c.find.result ≡ entry_named (map (λ row. entry row.1.now row.0) c.args.rows.now) c.args.name.now
found c = ap (option_map (λ row. row.0))
    (find_from_yields_List (λ row. is_word row.1.now c.args.name.now) _ _ c.find.result c.find.ensures.ran (YieldsList-from_slice c.args.rows.now cc) (λ x b q k. search (rules, tests)))
    ∙ found_in c.args.rows.now (λ row. row.0) (λ row. row.1.now) c.args.name.now

pub returns : goal.returns
returns c = ap standard_in (sym c.in_ok-row.was) ∙ found (goal.at-returns c).After-find

pub returns-in_err-row : goal.returns-in_err-row
returns-in_err-row c = c.from_residual.ensures ∙ ap standard_in (sym c.in_err-row.was) ∙ found (goal.at-returns-in_err-row c).After-find
