use Rattle.std.proofs.Common.{◌≡◌, ℕ, zero, suc, ◌++◌, ◌<◌, ◌≤◌, List, length, refl, sym, ◌∙◌, ap, append_assoc, append-nil, arith, string_bytes}
use Rattle.std.specs.Str.Chunks.{utf8_chunks_rest}
use Rattle.st_messages.specs.Shown.{shown_within}
use Rattle.st_messages.proofs.Showing.{shown_all, shown_more, shown_no_more}
use Rattle.st_messages.proofs.shown.push_shown.Goals as goal

pub loop-chunk-init : goal.loop-chunk-init
loop-chunk-init c =
    let rest : utf8_chunks_rest c.into_iter-chunk-iterator.result ≡ c.args.bytes.now =
    ap utf8_chunks_rest c.into_iter-chunk-iterator.ensures.into_iter_gives ∙ c.utf8_chunks-chunk-items.ensures.rest in
    let size = ap length rest in (
      length c.args.bytes.now,
      omega (arith, size),
      ap (λ b. string_bytes c.args.message.now ++ shown_within (length c.args.bytes.now) b) rest
          ∙ ap (λ t. string_bytes c.args.message.now ++ t) (sym (shown_all c.args.bytes.now)),
    )

-- one turn fewer is left behind a chunk
turn : (turns more less : ℕ) → more ≤ turns → less < more → (t : ℕ) × (turns ≡ suc t) × (less ≤ t)
turn zero more less h k = absurd (omega (arith, h, k))
turn (suc t) more less h k = (t, refl, omega (arith, h, k))

pub loop-chunk-preserved : goal.loop-chunk-preserved
loop-chunk-preserved c =
    let held = c.loop-chunk.invariant in
    let steps = c.in-Some.ensures.steps in
    let t = turn held.0 _ _ held.1 steps.1 in (
      t.0,
      t.2,
      rw (c.in_ok-push_bytes.ensures, c.in_ok-push_text.ensures, c.valid.ensures, c.invalid.ensures, append_assoc, append_assoc)
          (rw (t.1, shown_more t.0 _ _ _ _ steps.0 steps.3.0 steps.3.1) at held.2),
    )

pub returns : goal.returns
returns c =
    let held = c.loop-chunk.invariant in
    sym (append-nil _) ∙ (rw (shown_no_more held.0 _ c.in-None.ensures.steps.0) at held.2)
