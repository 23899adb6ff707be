-- The certificate, for any pair system.
--     Lagrangian       the function whose minimum over the box a flow's image is
--     Congruence       numbers that agree below the counts have the same price, image and floor
--     Metric           the squared distance of two images
--     Distance         the distance law, and its case of slack 0
--     TwoFlows         the distance law of two flows, each against the other's image
--     Certified        the certificate of a buffer that holds a flow's image
--     Division         whole divisions, and two certificates of one problem
--     Ascent           what a change of the flow does to the floor
--     Rounding         what a share of a fall gains, and when it is 0
--     Step             one step
--     Steady           steady rounds: their number, and where they settle
--     Grid             all of it at document 01's grid, of what check and run give and leave
--     Counterexamples  the statements altered, refuted
pub mod Lagrangian
pub mod Congruence
pub mod Metric
pub mod Distance
pub mod TwoFlows
pub mod Certified
pub mod Division
pub mod Ascent
pub mod Rounding
pub mod Step
pub mod Steady
pub mod Grid
pub mod Counterexamples
