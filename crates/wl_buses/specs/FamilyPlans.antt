pub mod FamilyStations
