-- The string of a message, and which strings make one.
use Rattle.std.specs.Prelude.{◌≡◌, ℕ, ◌+◌, false, List, ◌++◌, length, Option, MatchOption, nat_le}
use Rattle.digest.specs.declared.message.Message.{Message}
use Rattle.digest.specs.declared.message.TheConstants.{LIMIT}

abbrev pub joined : Message → List ℕ
joined m = m.first.now ++ m.second.now

-- there is a message of these two parts exactly where they are within the limit together
abbrev pub MessageOf : List ℕ → List ℕ → Option Message → Type 0
MessageOf first second r = MatchOption r (nat_le (length first + length second) LIMIT ≡ false) (λ m. (m.first.now ≡ first) × (m.second.now ≡ second))
