mod LegalLaws
mod SmallLaws
mod AscendLaws
