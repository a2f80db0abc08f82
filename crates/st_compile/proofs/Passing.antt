-- Sound commands whose functions pass a test are sound with those functions alone.
use Rattle.std.proofs.Common.{if◌then◌else◌, None, ap, ◌∙◌}
use Rattle.st_types.specs.Compositions.{Composition}
use Rattle.st_values.specs.declared.elem.Elem.{Elem}
use Rattle.st_values.specs.declared.elem.Elem.TheVariants as elems
use Rattle.st_leaves.specs.Selected.{selected_by}
use Rattle.st_meaning.specs.CalledBy.{ActionsCall, BodyCalls, BranchesCall, CalledTest, CasesCall, CommandCalls, CommandsCall, MovesCall, PartsCall, TermCalls, TermsCall, TestsCall}
use Rattle.st_meaning.specs.Sound.{AreSoundActions, AreSoundBranches, AreSoundCases, AreSoundCommands, AreSoundMoves, AreSoundParts, AreSoundTerms, AreSoundTests, IsCount, IsPlaceOf, IsSoundBody, IsSoundCommand, IsSoundTerm, IsTermOf, term_type}
use Rattle.st_meaning.specs.Terms.{Actions, Body, Branches, Cases, Command, Commands, Moves, Parts, Term, Terms, Tests, assign, binary, call, cases, chart_body, choice, constant, count_loop, element_part, enter, exit, field_part, finish, invoke, more_actions, more_branches, more_cases, more_commands, more_moves, more_terms, more_tests, no_actions, no_branches, no_cases, no_commands, no_moves, no_terms, no_tests, nothing, of_step, plain_body, repeat_loop, selection, stored, unary, while_loop, whole}
use Rattle.st_meaning.specs.Wholes.{Functions}
use Rattle.st_compile.specs.Passing.{SoundBodiesCallWhatPasses, SoundCommandsCallWhatPasses, passing}

module _ (functions : Functions) (test : CalledTest) where
  abbrev few : Functions
  few = passing test functions

  mutual
    term_passes : (root : Composition) (t : Term) → IsSoundTerm functions root t → TermCalls test t → IsSoundTerm few root t
    term_passes root (constant v) h c = h
    term_passes root (stored ps) h c = (h.0, parts_pass root ps h.1 c)
    term_passes root (of_step is_time name) h c = h
    term_passes root (unary o a) h c = (term_passes root a h.0 c, h.1)
    term_passes root (binary o line a b) h c = (term_passes root a h.0 c.0, term_passes root b h.1 c.1, h.2, h.3)
    term_passes root (selection g a b) h c = (term_passes root g h.0 c.0, term_passes root a h.1 c.1, term_passes root b h.2 c.2, h.3)
    term_passes root (call line unit result ts sources) h c = (
      terms_pass root ts h.0 c.1,
      record {
        function = h.1.function;
        known = ap (λ b. if b then functions unit else None) c.0 ∙ h.1.known;
        result_is = h.1.result_is;
        inputs = h.1.inputs;
      },
    )

    terms_pass : (root : Composition) (ts : Terms) → AreSoundTerms functions root ts → TermsCall test ts → AreSoundTerms few root ts
    terms_pass root no_terms h c = tt
    terms_pass root (more_terms t ts) h c = (term_passes root t h.0 c.0, terms_pass root ts h.1 c.1)

    parts_pass : (root : Composition) (ps : Parts) → AreSoundParts functions root ps → PartsCall test ps → AreSoundParts few root ps
    parts_pass root whole h c = tt
    parts_pass root (field_part name ps) h c = parts_pass root ps h c
    parts_pass root (element_part line ts ps) h c = (terms_pass root ts h.0 c.0, parts_pass root ps h.1 c.1)

  place_passes : (root : Composition) (e : Elem) (ps : Parts) → IsPlaceOf functions root e ps → PartsCall test ps → IsPlaceOf few root e ps
  place_passes root e ps h c = record { type = h.type; parts = parts_pass root ps h.parts c }

  term_of_passes : (root : Composition) (e : Elem) (t : Term) → IsTermOf functions root e t → TermCalls test t → IsTermOf few root e t
  term_of_passes root e t h c = record { type = h.type; sound = term_passes root t h.sound c }

  moves_pass : (root : Composition) (ms : Moves) → AreSoundMoves functions root ms → MovesCall test ms → AreSoundMoves few root ms
  moves_pass root no_moves h c = tt
  moves_pass root (more_moves ps t more) h c = (place_passes root (term_type root t) ps h.0 c.0, term_passes root t h.1 c.1, moves_pass root more h.2 c.2)

  count_passes : (root : Composition) (ps : Parts) (a b s : Term) → IsCount functions root ps a b s → PartsCall test ps → TermCalls test a → TermCalls test b → TermCalls test s
      → IsCount few root ps a b s
  count_passes root ps a b s h at from to by = record {
    variable = place_passes root (term_type root a) ps h.variable at;
    fixed = h.fixed;
    first = term_passes root a h.first from;
    last = term_of_passes root (term_type root a) b h.last to;
    step = term_of_passes root (term_type root a) s h.step by;
  }

  tests_pass : (root : Composition) (ts : Tests) → AreSoundTests functions root ts → TestsCall test ts → AreSoundTests few root ts
  tests_pass root no_tests h c = tt
  tests_pass root (more_tests line t more) h c = (term_of_passes root elems.Bool t h.0 c.0, tests_pass root more h.1 c.1)

  mutual
    command_passes : (root : Composition) (c : Command) → IsSoundCommand functions root c → CommandCalls test c → IsSoundCommand few root c
    command_passes root (nothing line) h c = tt
    command_passes root (assign line ps t) h c = (place_passes root (term_type root t) ps h.0 c.0, term_passes root t h.1 c.1)
    command_passes root (choice line bs others) h c = (branches_pass root bs h.0 c.0, commands_pass root others h.1 c.1)
    command_passes root (cases line t cs others) h c = (term_passes root t h.0 c.0, cases_pass root (term_type root t) cs h.1 c.1, commands_pass root others h.2 c.2)
    command_passes root (count_loop line ps a b s cs) h c = (count_passes root ps a b s h.0 c.0 c.1 c.2 c.3, commands_pass root cs h.1 c.4)
    command_passes root (while_loop line t cs) h c = (term_passes root t h.0 c.0, commands_pass root cs h.1 c.1)
    command_passes root (repeat_loop line cs t) h c = (commands_pass root cs h.0 c.0, term_passes root t h.1 c.1)
    command_passes root (invoke line name b inputs outputs) h c = record { block = h.block; inputs = moves_pass root inputs h.inputs c.0; outputs = moves_pass root outputs h.outputs c.1 }
    command_passes root (enter line name unit body inputs outputs) h c = (moves_pass root inputs h.0 c.0, body_passes (selected_by root name) body h.1 c.1, moves_pass root outputs h.2 c.2)
    command_passes root (exit line) h c = tt
    command_passes root (finish line) h c = tt

    commands_pass : (root : Composition) (cs : Commands) → AreSoundCommands functions root cs → CommandsCall test cs → AreSoundCommands few root cs
    commands_pass root no_commands h c = tt
    commands_pass root (more_commands x cs) h c = (command_passes root x h.0 c.0, commands_pass root cs h.1 c.1)

    branches_pass : (root : Composition) (bs : Branches) → AreSoundBranches functions root bs → BranchesCall test bs → AreSoundBranches few root bs
    branches_pass root no_branches h c = tt
    branches_pass root (more_branches t cs bs) h c = (term_passes root t h.0 c.0, commands_pass root cs h.1 c.1, branches_pass root bs h.2 c.2)

    cases_pass : (root : Composition) (e : Elem) (cs : Cases) → AreSoundCases functions root e cs → CasesCall test cs → AreSoundCases few root e cs
    cases_pass root e no_cases h c = tt
    cases_pass root e (more_cases labels cs more) h c = (h.0, commands_pass root cs h.1 c.0, cases_pass root e more h.2 c.1)

    actions_pass : (root : Composition) (as' : Actions) → AreSoundActions functions root as' → ActionsCall test as' → AreSoundActions few root as'
    actions_pass root no_actions h c = tt
    actions_pass root (more_actions cs more) h c = (commands_pass root cs h.0 c.0, actions_pass root more h.1 c.1)

    body_passes : (root : Composition) (body : Body) → IsSoundBody functions root body → BodyCalls test body → IsSoundBody few root body
    body_passes root (plain_body cs) h c = commands_pass root cs h c
    body_passes root (chart_body unit sketch tests actions) h c = (
      record {
        leaves = h.0.leaves;
        conditions = tests_pass root tests h.0.conditions c.0;
        as_many_tests = h.0.as_many_tests;
        variables = h.0.variables;
        as_many_actions = h.0.as_many_actions;
      },
      actions_pass root actions h.1 c.1,
    )

pub sound_bodies_call_what_passes : SoundBodiesCallWhatPasses
sound_bodies_call_what_passes functions test root body sound calls = body_passes functions test root body sound calls

pub sound_commands_call_what_passes : SoundCommandsCallWhatPasses
sound_commands_call_what_passes functions test root cs sound calls = commands_pass functions test root cs sound calls
