pub mod Seating
pub mod Roles
pub mod Laying
pub mod Counting
pub mod Frees
pub mod RingSteps
mod Ringing
pub mod LeftWords
pub mod PoolSteps
pub mod CardSteps
pub mod SideSteps
mod Taking
mod Beginning
mod Shutting
mod InHand
mod ReturnLowered
mod Releasing
mod Cutting
mod Scrubbing
mod SpareTaking
pub mod Opening
mod UserSteps
mod Lending
mod SpareLending
mod UserLowering
mod SlotWords
mod SlotSteps
mod CardEnds
mod CardLooks
mod RingMoves
mod AppLooks
mod AppSlots
mod CardSlots
mod FreeSlots
mod Writing
mod Giving
mod Dealing
mod DealtCases
mod Sending
mod NotesTaken
mod Judging
mod ScrubTaking
pub mod Phases
mod PhasesByCard
mod PhasesByApp
mod PhasesBySlots
mod PhasesByFree
mod PhasesOpened
pub mod PhaseWords
mod Ending
mod LeaveLooks
mod EndLooks
mod ReserveLooks
mod Abandoning
mod FreeWords
mod AppHands
mod Listing
mod WordLooks
mod Picking
pub mod Found
mod Sweeping
mod Resting
pub mod AppNumbers
mod CardLaw
mod AppLaw
pub mod Running
pub mod LineLemmas
pub mod AreaLines
pub mod LaidLines
pub mod AtHome
pub mod TextsOpened
pub mod TextsByCard
pub mod TextsByApp
pub mod TextsBySlots
mod TextsStored
pub mod TextsRead
mod AreaCard
mod TextsByFree
mod PhasesByArea
mod AreaApp
mod RolesOver
