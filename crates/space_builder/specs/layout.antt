pub mod TreePage
pub mod TreeSpot
pub mod ValuePage
pub mod Layout
pub mod LowerLaws
pub mod Laws
