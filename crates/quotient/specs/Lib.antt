pub mod Trees
pub mod TreeParts
pub mod Quotients
pub mod Width
pub mod TreeSearch
pub mod Distinct
pub mod Inverses
pub mod WideProducts
