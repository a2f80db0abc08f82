-- Where the message on a text stands that isn't in the grammar.
use Rattle.std.proofs.Common.{◌≡◌, ℕ, ◌<◌, ◌≤◌, List, ap, ◌∙◌, subst, arith}
use Rattle.st_tokens.specs.declared.fault.SyntaxFault.{SyntaxFault}
use Rattle.st_tokens.specs.declared.fault.SyntaxFault.TheVariants as syntax_faults
use Rattle.st_messages.specs.Headings.{place_at}
use Rattle.st_messages.specs.Places.{HasLine, line_at}
use Rattle.st_messages.proofs.Lines.{placed_line}
use Rattle.st_syntax.specs.Stops.{NamesLine}
use Rattle.st_syntax_messages.specs.Located.{IsUnknownAt}
use Rattle.st_syntax_messages.specs.Stopped.{IsAtStop}
use Rattle.st_syntax_messages.proofs.Stopped.{outside_at, outside_line, too_deep_at, too_deep_line}
use Rattle.st_explain.specs.Messages.{IsSyntaxPlace, syntax_line, syntax_number}

module _ (text : List ℕ) (start : ℕ) where
  -- what stands there
  pub syntax_place : (fault : SyntaxFault) (number line : ℕ) → number ≡ syntax_number fault → line ≡ syntax_line fault → NamesLine fault text → (number ≡ 4 → start ≡ 0)
      → (number ≡ 1 → IsUnknownAt text line start) → (1 < number → number < 4 → IsAtStop text start) → IsSyntaxPlace fault text start
  syntax_place syntax_faults.Memory number line n l names long unknown stops = tt
  syntax_place (syntax_faults.NoToken named) number line n l names long unknown stops = subst (λ k. IsUnknownAt text k start) l (unknown n)
  syntax_place (syntax_faults.NotInGrammar named) number line n l names long unknown stops = outside_at named text start names (stops (omega (arith, n)) (omega (arith, n)))
  syntax_place (syntax_faults.TooDeep named) number line n l names long unknown stops = too_deep_at named text start names (stops (omega (arith, n)) (omega (arith, n)))
  syntax_place syntax_faults.TooLong number line n l names long unknown stops = long n

  -- on the line that is named
  pub syntax_lined : (fault : SyntaxFault) (number line : ℕ) → number ≡ syntax_number fault → line ≡ syntax_line fault → IsSyntaxPlace fault text start
      → (number ≡ 1 → HasLine text line → line_at text start ≡ line) → 1 ≤ number → HasLine text (syntax_line fault) → (place_at text start).line ≡ syntax_line fault
  syntax_lined fault number line n l place lined some has = placed_line text start ∙ by fault n l place has where
    by : (fault : SyntaxFault) → number ≡ syntax_number fault → line ≡ syntax_line fault → IsSyntaxPlace fault text start → HasLine text (syntax_line fault) → line_at text start ≡ syntax_line fault
    by syntax_faults.Memory n l place has = absurd (omega (arith, n, some))
    by (syntax_faults.NoToken named) n l place has = subst (λ k. HasLine text k → line_at text start ≡ k) l (lined n) has
    by (syntax_faults.NotInGrammar named) n l place has = outside_line named text start place
    by (syntax_faults.TooDeep named) n l place has = too_deep_line named text start place
    by syntax_faults.TooLong n l place has = ap (line_at text) place
