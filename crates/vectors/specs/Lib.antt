-- What the records and requests of the stored files say.
pub mod ExponentRecords
pub mod ImageRequests
