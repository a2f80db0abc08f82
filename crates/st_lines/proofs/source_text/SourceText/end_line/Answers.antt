use Rattle.std.proofs.Common.{[], ◌∷◌, ◌++◌, append-nil, refl, sym, ◌∙◌}
use Rattle.st_lines.specs.SourceTexts.{IsStored}
use Rattle.st_lines.proofs.source_text.SourceText.end_line.Goals as goal

pub returns-clause-line : goal.returns-clause-line
returns-clause-line c = λ _ text part holds.
    let before : IsStored c.ends.new.self.bytes.items c.ends.new.self.size (text ++ holds.line) = rw (c.ends.ensures.same c.if-ends.false) holds.holds.all in
    let lines = text ++ holds.line ++ 10 ∷ [] in
    let after = c.put-self.ensures.stored (text ++ holds.line) before in
    rw holds.stripped (record {
      line = [];
      is = refl;
      stripped = refl;
      holds = record {
        lines = record { len = after.len; kept = λ kept short. ([], after.kept kept short ∙ sym (append-nil lines)); lost = after.lost };
        all = rw (append-nil lines) after;
        word = λ rest. refl;
      };
    })
