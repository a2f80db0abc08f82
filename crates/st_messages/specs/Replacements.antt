-- Tables of words, and the row of a word.
use Rattle.std.specs.Prelude.{ℕ, List, Option, map, option_map}
use Rattle.std.specs.List.{find}
use Rattle.st_values.specs.Words.{is_word}
use Rattle.st_messages.specs.declared.left_out_names.TheConstants.{FUNCTIONS, TYPES}
use Rattle.st_messages.specs.declared.other_words.TheConstants.{LEFT_OUT, OTHERS}

-- the row of a word in a table of words, of what is wrong with them, and of what to do: the first one, ignoring case
abbrev pub row_of : List (List ℕ × List ℕ × List ℕ) → List ℕ → Option (List ℕ × List ℕ × List ℕ)
row_of rows word = find (λ row. is_word row.0 word) rows

-- what is said of a reserved word that stands in no rule of the grammar
unfoldable pub left_out : List ℕ → Option (List ℕ × List ℕ × List ℕ)
left_out word = row_of (map (λ row. (row.0.now, row.1.now, row.2.now)) LEFT_OUT) word

-- what is said of a word of another language or edition
unfoldable pub other_word : List ℕ → Option (List ℕ × List ℕ × List ℕ)
other_word word = row_of (map (λ row. (row.0.now, row.1.now, row.2.now)) OTHERS) word

-- what the row of a name says in a table of names and of what to use: the first one, ignoring case
abbrev pub help_in : List (List ℕ × List ℕ) → List ℕ → Option (List ℕ)
help_in rows name = option_map (λ row. row.1) (find (λ row. is_word row.0 name) rows)

-- what to use for a type that is left out
unfoldable pub type_left_out : List ℕ → Option (List ℕ)
type_left_out name = help_in (map (λ row. (row.0.now, row.1.now)) TYPES) name

-- what to use for a function that is left out
unfoldable pub function_left_out : List ℕ → Option (List ℕ)
function_left_out name = help_in (map (λ row. (row.0.now, row.1.now)) FUNCTIONS) name
