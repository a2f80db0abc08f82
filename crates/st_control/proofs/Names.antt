-- The name of a program that is checked.
use Rattle.std.proofs.Common.{◌≡◌, ◌<◌, ◌≤◌, ℕ, zero, suc, Bool, true, false, List, [], ◌∷◌, ◌++◌, length, map, get_or, refl, ap, arith}
use Rattle.std.proofs.lemmas.Bool.{and_parts}
use Rattle.std.proofs.lemmas.Bool.Decides.{nat_tests}
use Rattle.std.proofs.lemmas.List.{length-map}
use Rattle.std.proofs.lemmas.List.Quantifiers.{position-Some}
use Rattle.std.proofs.lemmas.Slice.Eq.{bytes_eq-Decides}
use Rattle.std.specs.Char.{to_ascii_lowercase}
use Rattle.st_check.specs.Faults.{is_main, is_program}
use Rattle.st_check.specs.Programs.{ProgramView, main_of, text_of}
use Rattle.st_check_units.specs.Units.{is_past_limit, name_faults, names_faults}
use Rattle.st_control.specs.Texts.{IsProgramOf}
use Rattle.st_faults.specs.Faults.{when}
use Rattle.st_faults.specs.declared.fault.Fault.{Fault}
use Rattle.st_tree.specs.declared.tree.position.Identifier.{Identifier}
use Rattle.st_types.specs.Names.{Named, units_of}
use Rattle.st_values.specs.Words.{is_word}

-- where nothing stands in two lists, nothing stands in each
none_in_either : {X : Type 0} (xs ys : List X) → xs ++ ys ≡ [] → (xs ≡ []) × (ys ≡ [])
none_in_either [] ys none = (refl, none)
none_in_either (x ∷ xs) ys none = absurd (cc)

-- a name that passes no limit is short
name_short : (others : List (List ℕ)) (name : Identifier) → name_faults others name ≡ [] → length name.spelling ≤ 128
name_short others name none = by (is_past_limit (length others) name.spelling) _ refl (none_in_either _ _ none).1
  where
    by : (past : Bool) (fault : Fault) → is_past_limit (length others) name.spelling ≡ past → when past fault ≡ [] → length name.spelling ≤ 128
    by true fault is nothing = absurd (cc)
    by false fault is nothing = grind (arith, nat_tests)

-- and so are the names of units that have no fault
names_short : (others : List (List ℕ)) (units : List Named) (k : ℕ) (d : Named) → names_faults others units ≡ [] → k < length units → length (get_or units k d).name.spelling ≤ 128
names_short others [] k d none below = absurd (omega (arith, below))
names_short others (unit ∷ units) zero d none below = name_short others unit.name (none_in_either _ _ none).0
names_short others (unit ∷ units) (suc k) d none below = names_short (others ++ unit.name.spelling ∷ []) units k d (none_in_either _ _ none).1 (omega (arith, below))

-- texts that are one word, ignoring case, are of one length
same_length : (word text : List ℕ) → is_word word text ≡ true → length text ≡ length word
same_length word text same =
    let lowered = (bytes_eq-Decides (map to_ascii_lowercase text) (map to_ascii_lowercase word)).0 same in
    omega (arith, ap length lowered, length-map text to_ascii_lowercase, length-map word to_ascii_lowercase)

-- a text is checked as a program of a short name alone
pub main_short : (text main : List ℕ) (program : ProgramView) → IsProgramOf text main program → length main ≤ 128
main_short text main program is =
    let found = position-Some (is_main main) (units_of (text_of program)) (main_of program) is.checked.unit is.named in
    let unit = get_or (units_of (text_of program)) (main_of program) is.checked.unit in
    let short = names_short [] (units_of (text_of program)) (main_of program) is.checked.unit (none_in_either _ _ is.checked.faultless).0 found.0 in
    let same = same_length main unit.name.spelling (and_parts (is_program unit.declares) _ found.1).1 in
    omega (arith, short, same)
