-- An online change without renames is never refused for its pairs.
use Rattle.std.proofs.Common.{◌≡◌, ◌≢◌, ℕ, Bool, true, false, not, List, [], ◌∷◌, Option, Some, None, inl, inr, refl, sym, ◌∙◌, subst}
use Rattle.std.specs.Option.{option_map_or}
use Rattle.std.specs.Prelude.{Err}
use Rattle.st_check.specs.Programs.{ProgramView}
use Rattle.st_control.specs.Causes.{no_active_step, no_memory, not_paired, undo_full}
use Rattle.st_control.specs.Changes.{gives_pairs, stops_chart}
use Rattle.st_control.specs.Machine.{Heeds, change_causes, unless}
use Rattle.st_control.specs.States.{StateView}
use Rattle.st_control.specs.Texts.{IsCheckedAs, refusal_of}
use Rattle.st_control.specs.declared.refusal.Refusal.{Refusal}
use Rattle.st_control.specs.declared.refusal.Refusal.TheVariants as refusals
use Rattle.st_faults.specs.Faults.{number_of}
use Rattle.st_faults.specs.declared.fault.Rule.{Rule}
use Rattle.st_layout.specs.Pairs.{Pairs}
use Rattle.st_layout.specs.declared.renames.Rename.{Rename}
use Rattle.st_tokens.specs.declared.fault.SyntaxFault.{SyntaxFault}
use Rattle.st_tokens.specs.declared.fault.SyntaxFault.TheVariants as syntax_faults

-- what is refused for its pairs has none
unpaired : {A : Type 0} (full paired stopped : Bool) (made : A)
    → unless ((undo_full, full) ∷ (not_paired, not paired) ∷ (no_active_step, stopped) ∷ []) made ≡ Err not_paired → paired ≡ false
unpaired true paired stopped made is = absurd (cc)
unpaired false false stopped made is = refl
unpaired false true true made is = absurd (cc)
unpaired false true false made is = absurd (cc)

pub never_unpaired : (s : StateView) (full : Bool) (renames : List Rename) (program : ProgramView) (refusal : Refusal) → gives_pairs s [] program ≡ true → renames ≡ []
    → Heeds {A = Pairs} (change_causes s full renames program) (Err refusal) → refusal ≢ not_paired
never_unpaired s full renames program refusal pairs none (inl memory) is = absurd (let same : no_memory ≡ not_paired = sym memory ∙ is in cc)
never_unpaired s full renames program refusal pairs none (inr caused) is =
    let paired : gives_pairs s renames program ≡ true = subst (λ (given : List Rename). gives_pairs s given program ≡ true) (sym none) pairs in
    let refused = subst (λ (it : Refusal). unless {A = Unit {0}} (change_causes s full renames program) tt ≡ Err it) is caused in
    absurd (let not : gives_pairs s renames program ≡ false = unpaired full (gives_pairs s renames program) (stops_chart s renames program) tt refused in cc)

-- ---- nor is a text

syntax_is_other : (fault : SyntaxFault) → refusal_of fault ≢ not_paired
syntax_is_other syntax_faults.Memory is = absurd (cc)
syntax_is_other (syntax_faults.NoToken line) is = absurd (cc)
syntax_is_other (syntax_faults.NotInGrammar line) is = absurd (cc)
syntax_is_other (syntax_faults.TooDeep line) is = absurd (cc)
syntax_is_other syntax_faults.TooLong is = absurd (cc)

rule_is_other : (rule : Option Rule) (line : ℕ) → option_map_or (λ broken. refusals.C (number_of broken) line) rule refusals.M ≢ not_paired
rule_is_other None line is = absurd (cc)
rule_is_other (Some rule) line is = absurd (cc)

pub text_is_other : (text main : List ℕ) (refusal : Refusal) → IsCheckedAs text main (Err refusal) → refusal ≢ not_paired
text_is_other text main refusal (inl long) is = absurd (let same = sym long.1 ∙ is in cc)
text_is_other text main refusal (inr (few, inl memory)) is = absurd (let same = sym memory ∙ is in cc)
text_is_other text main refusal (inr (few, inr (inl fault))) is = syntax_is_other fault.0 (sym fault.1 ∙ is)
text_is_other text main refusal (inr (few, inr (inr units))) is = rule_is_other _ _ (sym units.2.1 ∙ is)
