use Rattle.std.proofs.Common.{rules, tests, ◌≡◌, ◌∙◌, sym, ap, Bor, List, ℕ, Option, map}
use Rattle.std.proofs.lemmas.Iterator.{YieldsList-from_slice}
use Rattle.std.proofs.lemmas.Iterator.Search.{find_from_yields_List}
use Rattle.std.specs.Prelude.{option_map}
use Rattle.st_values.specs.Words.{is_word}
use Rattle.st_messages.specs.Replacements.{row_of}
use Rattle.st_messages.proofs.ReplacementRows.{found_in}
use Rattle.st_messages.proofs.other_words.row_of.Goals.{After-find}
use Rattle.st_messages.proofs.other_words.row_of.Goals as goal

-- a row of a table
abbrev Row : Type 0
Row = Bor (List ℕ) × Bor (List ℕ) × Bor (List ℕ)

abbrev texts : Row → List ℕ × List ℕ × List ℕ
texts row = (row.0.now, row.1.now, row.2.now)

-- what the row that was found says
abbrev seen : Option (Bor Row) → Option (List ℕ × List ℕ × List ℕ)
seen found = option_map texts (option_map (λ row. row.now) found)

-- `find` gives the first row of the word
found : (c : After-find) → seen c.find.result ≡ row_of (map texts c.args.rows.now) c.args.word.now
found c = ap (option_map texts)
    (find_from_yields_List (λ row. is_word row.0.now c.args.word.now) _ _ c.find.result c.find.ensures.ran (YieldsList-from_slice c.args.rows.now cc) (λ x b q k. search (rules, tests)))
    ∙ found_in c.args.rows.now texts (λ s. s.0) c.args.word.now

pub returns : goal.returns
returns c = ap seen (sym c.in_ok-row.was) ∙ found (goal.at-returns c).After-find

pub returns-in_err-row : goal.returns-in_err-row
returns-in_err-row c = ap (option_map texts) c.from_residual.ensures ∙ ap seen (sym c.in_err-row.was) ∙ found (goal.at-returns-in_err-row c).After-find
