use Rattle.std.proofs.Common.{sym, ◌∙◌, append_assoc, append-nil}
use Rattle.std.proofs.lemmas.Str.{IsUtf8-past_char}
use Rattle.st_messages.specs.Rows.{slot_texts}
use Rattle.st_messages.proofs.Showing.{filled_more, filled_none}
use Rattle.st_messages.proofs.saying.filled.Goals as goal

pub loop-character-preserved : goal.loop-character-preserved
loop-character-preserved c =
    let held = c.loop-character.invariant in
    let parts = c.in-Some.ensures.steps.0 in (
      IsUtf8-past_char _ _ c.in-Some.character held.0 parts,
      rw (c.in_ok-push_piece.ensures, append_assoc) (rw (filled_more (slot_texts c.args.slots.now) _ _ c.in-Some.character held.0 parts) at held.1),
    )

pub returns : goal.returns
returns c = sym (append-nil _) ∙ rw (filled_none (slot_texts c.args.slots.now) _ c.in-None.ensures.steps.0.0) at c.loop-character.invariant.1
