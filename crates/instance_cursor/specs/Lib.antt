pub mod Facts
pub mod Instances
pub mod Origins
pub mod Picks
pub mod Fitting
pub mod Picking
pub mod Cursors
