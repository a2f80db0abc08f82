-- What a run of a program leaves lies in the frame.
use Rattle.std.proofs.Common.{◌≡◌, ℕ, suc, Bool, true, false, IsTrue, List, [], ◌∷◌, length, get_or, Option, Some, None, Ok, refl, ap, sym, ◌∙◌, subst}
use Rattle.std.specs.List.{AllZip}
use Rattle.std.proofs.lemmas.Option.{same_Some}
use Rattle.st_check.specs.Faults.{is_program}
use Rattle.st_check.specs.Programs.{ProgramView, leaves_of_program, main_of, optional_leaves, text_of}
use Rattle.st_tree.specs.declared.leaf.Leaf.{Leaf}
use Rattle.st_types.specs.Compositions.{Composition}
use Rattle.st_types.specs.Names.{Named, unit_at, units_of}
use Rattle.st_leaves.specs.Sound.{IsValueOf}
use Rattle.st_memory.specs.Memory.{AreValues}
use Rattle.st_values.specs.Values.{in_range}
use Rattle.st_values.specs.declared.elem.Elem.TheVariants as elems
use Rattle.st_meaning.specs.Laws.{StaysInFrame}
use Rattle.st_meaning.specs.Meaning.{Values, no_value}
use Rattle.st_meaning.specs.Sound.{AreSoundCalls, AreValuesOf, HasOneLeafEach}
use Rattle.st_meaning.specs.Statements.{Setting, Outcome, done, exited, returned, faulted, body_meaning}
use Rattle.st_meaning.specs.Units.{body_of_unit, calls_of, function_at, root_of, statements_of, unit_whole}
use Rattle.st_meaning.proofs.Commands.{bodies_keep_the_frame}
use Rattle.st_meaning.proofs.FunctionCalls.{calls_are_sound}
use Rattle.st_meaning.proofs.Typing.{typing_gives_sound_units}
use Rattle.st_places.proofs.SoundUnits.{units_are_sound}
use Rattle.st_compile.specs.Programs.{RunsKeepTheFrame, main_unit, optional_meaning, result_in, scan_result}
use Rattle.st_compile.proofs.OfLeaves.{values_of_program, values_of_root}
use Rattle.st_compile.proofs.OneLeaf.{one_leaf_each}

zipped_length : (leaves : List Leaf) (values : Values) → AllZip IsValueOf leaves values → length values ≡ length leaves
zipped_length [] [] h = refl
zipped_length [] (v ∷ values) h = absurd h
zipped_length (l ∷ leaves) [] h = absurd h
zipped_length (l ∷ leaves) (v ∷ values) h = ap suc (zipped_length leaves values h.1)

-- forced leaves have the values that they had
abbrev Kept : List Bool → Values → Values → Type 0
Kept forced values others = (n : ℕ) → get_or forced n false ≡ true → get_or others n no_value ≡ get_or values n no_value

abbrev Keeps : Composition → List Bool → Values → Values → Type 0
Keeps root forced values others = AreValuesOf root others × Kept forced values others

keeps_by : (program : ProgramView) (root : Composition) (forced : List Bool) (values others : Values) (limit : ℕ) (o : Outcome) → StaysInFrame root forced values limit o
    → result_in program o ≡ Ok others → Keeps root forced values others
keeps_by program root forced values others limit (done ws left) h is = let same : ws ≡ others = cc in subst (Keeps root forced values) same (h.all, h.kept)
keeps_by program root forced values others limit (exited ws left) h is = let same : ws ≡ others = cc in subst (Keeps root forced values) same (h.all, h.kept)
keeps_by program root forced values others limit (returned ws left) h is = let same : ws ≡ others = cc in subst (Keeps root forced values) same (h.all, h.kept)
keeps_by program root forced values others limit (faulted f) h is = absurd cc

-- of one unit, or of none
optional_keeps : (program : ProgramView) (units : List Named) (n : ℕ) (u : Option Named) (setting : Setting) (values others : Values) (limit : ℕ) → IsTrue (in_range elems.Time setting.now)
    → AreSoundCalls (function_at units) (calls_of units) → ((v : Named) → u ≡ Some v → HasOneLeafEach (root_of units v)) → ((v : Named) → u ≡ Some v → is_program v.declares ≡ true)
    → AreValues (optional_leaves units u) values → result_in program (optional_meaning units n u setting values limit) ≡ Ok others
    → AreValues (optional_leaves units u) others × Kept setting.forced values others
unfolding unit_whole
optional_keeps program units n None setting values others limit time calls one program_is h is =
    let same : values ≡ others = cc in
    subst (λ vs. AreValues (optional_leaves units None) vs × Kept setting.forced values vs) same (h, λ n e. refl)
optional_keeps program units n (Some u) setting values others limit time calls one program_is h is =
    let w = unit_whole units u in
    let body = body_of_unit units n u in
    let kept = keeps_by program w.variables setting.forced values others limit (body_meaning (calls_of units) w.variables setting body values limit)
    (bodies_keep_the_frame (function_at units) (calls_of units) w.variables setting body values limit calls time (one u refl) (values_of_root units u (program_is u refl) values h) (typing_gives_sound_units units u n (statements_of u.declares))) is in
    (values_of_program units u (program_is u refl) others kept.0, kept.1)

pub frame_kept : RunsKeepTheFrame
unfolding leaves_of_program scan_result
frame_kept program setting values others limit time checked fits is =
    let units = units_of (text_of program) in
    let one = λ (i : ℕ) (u : Named) (at : unit_at units i ≡ Some u). one_leaf_each units u (units_are_sound program checked i u at) in
    let program_is = λ (u : Named) (at : main_unit program ≡ Some u). subst (λ (v : Named). is_program v.declares ≡ true) (same_Some checked.unit u (sym checked.found ∙ at)) checked.program in
    let kept = optional_keeps program units (main_of program) (main_unit program) setting values others limit time (calls_are_sound units one) (one (main_of program)) program_is fits.types is in
    record {
      fits = record { types = kept.0; values = zipped_length (optional_leaves units (main_unit program)) others kept.0; forced = fits.forced };
      kept = kept.1;
    }
