use Rattle.std.proofs.Common.{[], subst}
use Rattle.std.specs.String.{string_bytes}
use Rattle.st_messages.specs.Headings.{IsTold}
use Rattle.st_explain.proofs.Syntax.{syntax_lined, syntax_place}
use Rattle.st_explain.proofs.explain.explain_grammar.Goals as goal

pub returns-clause-told : goal.returns-clause-told
returns-clause-told c = λ is names.
    let text = c.args.text.now in
    let fault = c.args.fault in
    let found = c.in_ok-number in
    let located = c.in_ok-located.located in
    let start = located.span.start in
    let title = string_bytes located.words.title in
    let said = c.in_ok-located.ensures in
    let place = syntax_place text start fault found.number found.line found.ensures.number found.ensures.line names said.long said.unknown said.stops in
    let message = string_bytes c.push_diagnosis.new.message in record {
      read = found.ensures.read;
      is = is;
      start = start;
      title = title;
      told = subst (λ n. IsTold [] message c.args.file.now text start (record { letter = 83; number = n }) title) found.ensures.number
          (subst (λ old. IsTold old message c.args.file.now text start (record { letter = 83; number = found.number }) title) c.new-message.ensures.bytes
          c.in_ok-push_diagnosis.ensures.told);
      line = syntax_lined text start fault found.number found.line found.ensures.number found.ensures.line place said.line (rw found.ensures.number found.ensures.read);
      place = place;
    }
