pub mod Card129
pub mod Worked
pub mod SmallCard
pub mod MixedCard
