use Rattle.std.proofs.Common.{rules, tests, ◌≡◌, ◌∙◌, sym, ap, Bor, List, ℕ, Option, map}
use Rattle.std.proofs.lemmas.Iterator.{YieldsList-from_slice}
use Rattle.std.proofs.lemmas.Iterator.Search.{find_from_yields_List}
use Rattle.std.specs.Prelude.{option_map}
use Rattle.st_values.specs.Words.{is_word}
use Rattle.st_tokens.specs.declared.keyword.Keyword.{Keyword}
use Rattle.st_tokens.specs.Words.{keyword_in}
use Rattle.st_tokens.proofs.Keywords.{found_in}
use Rattle.st_tokens.proofs.keyword.keyword_in.Goals.{After-find}
use Rattle.st_tokens.proofs.keyword.keyword_in.Goals as goal

-- the keyword of the row that was found
abbrev key_of : Option (Bor (Keyword × Bor (List ℕ))) → Option Keyword
key_of found = option_map (λ row. row.0) (option_map (λ row. row.now) found)

-- `find` gives the first row whose text is the word
found : (c : After-find) → key_of c.find.result ≡ keyword_in (map (λ row. (row.0, row.1.now)) c.args.rows.now) c.args.word.now
found c = ap (option_map (λ row. row.0))
    (find_from_yields_List (λ row. is_word row.1.now c.args.word.now) _ _ c.find.result c.find.ensures.ran (YieldsList-from_slice c.args.rows.now cc) (λ x b q k. search (rules, tests)))
    ∙ found_in c.args.rows.now (λ row. row.0) (λ row. row.1.now) c.args.word.now

pub returns : goal.returns
returns c = ap key_of (sym c.in_ok-row.was) ∙ found (goal.at-returns c).After-find

pub returns-in_err-row : goal.returns-in_err-row
returns-in_err-row c = c.from_residual.ensures ∙ ap key_of (sym c.in_err-row.was) ∙ found (goal.at-returns-in_err-row c).After-find
