mod Worked
mod Bookings
