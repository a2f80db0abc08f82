-- The pins of standard function blocks.
use Rattle.std.proofs.Common.{◌≡◌, ℕ, List, [], ◌∷◌, Option, map, refl, ◌∙◌, ap}
use Rattle.std.specs.List.{find}
use Rattle.std.specs.Option.{option_map}
use Rattle.st_values.specs.Words.{is_word}
use Rattle.st_types.specs.Pins.{seen}
use Rattle.st_types.specs.Standard.{Pin, pin_named}
use Rattle.st_types.specs.declared.pin.Pin.{Pin as Row}
use Rattle.st_types.proofs.Cases.{by_test}

-- what is found in a table of pins
found_pin : (rows : List Row) (name : List ℕ) → option_map seen (find (λ row. is_word row.name.now name) rows) ≡ pin_named (map seen rows) name
found_pin [] name = refl
found_pin (row ∷ rows) name = by_test (is_word row.name.now name) (λ t. rw t refl) (λ t. rw t (found_pin rows name))

pub pin_found : (rows : List Row) (pins : List Pin) (name : List ℕ) (found : Option Row) → map seen rows ≡ pins → found ≡ find (λ row. is_word row.name.now name) rows → option_map seen found ≡ pin_named pins name
pin_found rows pins name found are is = ap (option_map seen) is ∙ (found_pin rows name ∙ ap (λ (ps : List Pin). pin_named ps name) are)
