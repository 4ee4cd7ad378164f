-- What the block step depends on: FIPS 180-4 is one text over these parameters.
use Rattle.std.specs.Prelude.{ℕ, ◌-◌, ◌/◌, ◌^◌, List, map}
use Rattle.constants.specs.Rule.{round_constants}

-- three amounts to rotate by, or two to rotate by and one to shift by
pub record Amounts : Type 0 where
  pub first : ℕ
  pub second : ℕ
  pub third : ℕ

pub record Variant : Type 0 where
  -- the bits of a word; a block has sixteen words
  pub bits : ℕ
  -- the rounds of a block step, one schedule word each
  pub rounds : ℕ
  -- Σ0 and Σ1 rotate three times
  pub big0 : Amounts
  pub big1 : Amounts
  -- σ0 and σ1 rotate twice and shift once
  pub small0 : Amounts
  pub small1 : Amounts
  -- K_t, for each round
  pub constants : List ℕ

abbrev pub amounts : ℕ → ℕ → ℕ → Amounts
amounts x y z = record { first = x; second = y; third = z }

-- the upper w bits of 64
abbrev pub upper : ℕ → ℕ → ℕ
upper w k = k / 2 ^ (64 - w)

-- words of 32 bits: SHA-256
abbrev pub words32 : Variant
words32 = record {
  bits = 32;
  rounds = 64;
  big0 = amounts 2 13 22;
  big1 = amounts 6 11 25;
  small0 = amounts 7 18 3;
  small1 = amounts 17 19 10;
  constants = map (upper 32) round_constants;
}

-- words of 64 bits: SHA-512
abbrev pub words64 : Variant
words64 = record {
  bits = 64;
  rounds = 80;
  big0 = amounts 28 34 39;
  big1 = amounts 14 18 41;
  small0 = amounts 1 8 7;
  small1 = amounts 19 61 6;
  constants = map (upper 64) round_constants;
}
