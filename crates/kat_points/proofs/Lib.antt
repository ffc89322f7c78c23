pub mod PointSums
pub mod PointValues
pub mod HeldPoints
pub mod PointFindings
