use Rattle.std.proofs.Common.{◌≡◌, ℕ, List, [], ◌++◌, take, subst}
use Rattle.std.specs.Prelude.{Option, Some, None, IfSome, option_map}
use Rattle.st_driver.proofs.driver.read_text.Goals as goal

-- all that a limit lets through was read
all_taken : (known : Option (List ℕ)) (limit most : ℕ) (before items : List ℕ) → IfSome (option_map (take limit) known) (λ xs. items ≡ before ++ xs) → before ≡ []
    → limit ≡ most → IfSome known (λ bytes. items ≡ take most bytes)
all_taken None limit most before items all none is = all
all_taken (Some bytes) limit most before items all none is =
    subst (λ n. items ≡ take n bytes) is (subst (λ old. items ≡ old ++ take limit bytes) none all)

pub returns : goal.returns
returns g c = subst (λ reader. IfSome (g.R.Read.remaining reader) (λ bytes. c.read_to_end.new.buf.items ≡ take 1048577 bytes)) c.take.ensures.inner
    (all_taken (g.R.Read.remaining c.take.result.inner) c.take.result.limit 1048577 c.new-text.result.items c.read_to_end.new.buf.items c.in_ok-read_to_end.ensures.bytes
    c.new-text.ensures.items c.take.ensures.limit)
