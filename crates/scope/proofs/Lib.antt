-- Laws about the definitions of specs/, by subject.

-- Tests, scans and lists
pub mod Tests
pub mod Scan
pub mod Iterated
pub mod Members
pub mod Pigeonhole
pub mod Below
pub mod Sums
pub mod Puts
pub mod Stores
pub mod Over
pub mod Entries
-- Cells, edges and the walk
pub mod Cells
pub mod Edges
pub mod ValidCells
pub mod Spell
pub mod Walks
pub mod WalkStarts
pub mod Odometer
pub mod WalkCounts
pub mod WalkOwners
pub mod LevelRuns
pub mod Sixths
pub mod EdgeDigits
pub mod OwnOutline
-- The edge table, cell lists and refusals
pub mod Tables
pub mod RowSearch
pub mod Verdicts
pub mod OneOutcome
pub mod CellLists
pub mod CellOffers
pub mod Owning
pub mod Numbered
-- Following a step: landings, the ring successor, rings
pub mod Lands
pub mod Finite
pub mod Cycle
pub mod Successor
pub mod Offer
pub mod Outlines
pub mod Proper
pub mod Agree
pub mod Rings
pub mod OrderFree
pub mod AfreshFree
pub mod EvenMode
-- Groups: chains, labels, parent forests
pub mod Chains
pub mod Labels
pub mod LabelsAfresh
pub mod Groups
pub mod Forest
pub mod Halving
pub mod Climb
pub mod Unions
pub mod Joining
pub mod Pairs
-- The pool and the state's rules
pub mod Linked
pub mod Returns
pub mod Placed
pub mod Cancelling
pub mod PoolCount
pub mod Lengths
pub mod Rules
pub mod RulesKept
pub mod Sound
pub mod Opened
-- Area and order
pub mod Adding
pub mod AreaOrder
pub mod Orders
pub mod Sorting
pub mod Sorted
pub mod Perms
pub mod Ascending
pub mod RingOrder
pub mod Polygons
pub mod PolygonByPolygon
pub mod ReadRoom
-- Demand 3: what a run of calls leaves is what the accepted cells give afresh
pub mod States
pub mod OneMore
pub mod History
pub mod StateOf
pub mod Taking
pub mod TakingRules
pub mod TakingCells
pub mod TakingStates
pub mod TakingShows
pub mod Run
pub mod Untouched
pub mod SlotsLeft
pub mod ViewsAlike
pub mod WhateverOrder
pub mod Dissolving
pub mod DissolveRuns
pub mod Begun
pub mod ShownAfresh
pub mod Counts
pub mod RingsLeft
-- Demand 2: what is answered and written is drawn afresh from the accepted cells
pub mod Drawn
pub mod DrawnRows
pub mod ShownDrawn
pub mod Written
-- Demand 1: what a refused call leaves
pub mod Refused
pub mod EightFirst
-- Room that is always enough
pub mod EnoughRoom
pub mod EnoughSlots
-- The bytes of the host
pub mod RoundTrip
pub mod PastHeld
pub mod ByteStates
pub mod ByteRuns
