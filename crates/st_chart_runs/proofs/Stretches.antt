-- Values of leaves that stand together.
use Rattle.std.proofs.Common.{◌≡◌, ℕ, zero, suc, ◌+◌, ◌≤◌, Bool, true, false, if◌then◌else◌, List, [], ◌∷◌, ◌++◌, length, get_or, set, take, drop, Some, refl, ap, ◌∙◌, arith, length-take}
use Rattle.std.proofs.Math.Seq.{drop-length}
use Rattle.st_values.specs.declared.value.Value.{Value}
use Rattle.st_meaning.specs.Meaning.{Values, stored_to}
use Rattle.st_meaning.specs.Statements.{stretch, unless_forced, with_stretch}
use Rattle.st_meaning.proofs.Stretches.{unless_length}

-- each value is stored to the next leaf
abbrev pub written : List Bool → Values → ℕ → Values → Values
written marks values leaf [] = values
written marks values leaf (v ∷ cells) = written marks (stored_to marks values v (Some leaf)) (leaf + 1) cells

-- behind the last one all are stored
pub written_all : (marks : List Bool) (values : Values) (leaf n : ℕ) (cells : Values) → n ≡ length cells
    → written marks values (leaf + n) (drop n cells) ≡ values
written_all marks values leaf n cells e = ap (λ (vs : Values). written marks values (leaf + n) vs) (ap (λ (k : ℕ). drop k cells) e ∙ drop-length cells)

-- ---- where the first leaf stands

pushed : (b : Bool) (v : Value) (values others : Values) → (if b then v ∷ values else (v ∷ others)) ≡ v ∷ (if b then values else others)
pushed true v values others = refl
pushed false v values others = refl

first_of_two : (b : Bool) (v w : Value) (values : Values) → (if b then v ∷ values else (w ∷ values)) ≡ (if b then v else w) ∷ values
first_of_two true v w values = refl
first_of_two false v w values = refl

stored_later : (marks : List Bool) (v w : Value) (values : Values) (leaf : ℕ)
    → stored_to marks (v ∷ values) w (Some (suc leaf)) ≡ v ∷ stored_to (drop 1 marks) values w (Some leaf)
stored_later [] v w values leaf = refl
stored_later (m ∷ marks) v w values leaf = pushed (get_or marks leaf false) v values (set values leaf w)

written_later : (marks : List Bool) (v : Value) (values : Values) (leaf : ℕ) (cells : Values)
    → written marks (v ∷ values) (suc leaf) cells ≡ v ∷ written (drop 1 marks) values leaf cells
written_later marks v values leaf [] = refl
written_later marks v values leaf (w ∷ cells) =
    let further : suc leaf + 1 ≡ suc (leaf + 1) = omega arith in
    rw (stored_later marks v w values leaf, further) (written_later marks v (stored_to (drop 1 marks) values w (Some leaf)) (leaf + 1) cells)

written_first : (marks : List Bool) (values cells : Values) → length cells ≤ length values
    → written marks values 0 cells ≡ unless_forced marks (take (length cells) values) cells ++ drop (length cells) values
written_first marks values [] h = refl
written_first marks [] (w ∷ cells) h = absurd (omega (arith, h))
written_first [] (v ∷ values) (w ∷ cells) h =
    written_later [] w values 0 cells ∙ ap (λ (vs : Values). w ∷ vs) (written_first [] values cells (omega (arith, h)))
written_first (m ∷ marks) (v ∷ values) (w ∷ cells) h =
    rw (first_of_two m v w values)
    (written_later (m ∷ marks) (if m then v else w) values 0 cells
    ∙ ap (λ (vs : Values). (if m then v else w) ∷ vs) (written_first marks values cells (omega (arith, h))))

-- ---- anywhere

dropped : (leaf : ℕ) (marks : List Bool) → drop leaf (drop 1 marks) ≡ drop (suc leaf) marks
dropped zero [] = refl
dropped (suc leaf) [] = refl
dropped leaf (m ∷ marks) = refl

-- storing values one after the other puts them in the place of the old ones, but where leaves are forced
pub written_is : (marks : List Bool) (values : Values) (leaf : ℕ) (cells : Values) → leaf + length cells ≤ length values
    → written marks values leaf cells ≡ with_stretch values leaf (unless_forced (drop leaf marks) (stretch values leaf (length cells)) cells)
written_is marks values zero cells h =
    let few : length cells ≤ length values = omega (arith, h) in
    let part = unless_forced marks (take (length cells) values) cells in
    let long : length part ≡ length cells = unless_length marks (take (length cells) values) cells (omega (arith, few, length-take (length cells) values)) in
    let behind : 0 + length part ≡ length cells = omega (arith, long) in
    rw behind (written_first marks values cells few)
written_is marks [] (suc leaf) cells h = absurd (omega (arith, h))
written_is marks (v ∷ values) (suc leaf) cells h =
    let part = unless_forced (drop (suc leaf) marks) (stretch values leaf (length cells)) cells in
    let further : suc leaf + length part ≡ suc (leaf + length part) = omega arith in
    rw further (written_later marks v values leaf cells
    ∙ ap (λ (vs : Values). v ∷ vs) (written_is (drop 1 marks) values leaf cells (omega (arith, h)))
    ∙ ap (λ (ms : List Bool). v ∷ with_stretch values leaf (unless_forced ms (stretch values leaf (length cells)) cells)) (dropped leaf marks))
